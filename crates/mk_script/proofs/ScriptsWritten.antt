-- Steps come back from the lines that they are written as.
use Rattle.std.proofs.Common.{◌≡◌, ◌+◌, ◌++◌, if◌then◌else◌, ℕ, Bool, true, false, Option, None, Some, Result, Ok, Err, List, [], ◌∷◌, length, map, refl, ap, sym, ◌∙◌, subst, append-nil, append_assoc, arith}
use Rattle.std.proofs.lemmas.List.{map-append}
use Rattle.std.specs.List.{flat_map}
use Rattle.std.specs.Option.{option_map_or}
use Rattle.mk_line.specs.declared.cutting.Ending.TheVariants.{Lf}
use Rattle.mk_line.specs.Lines.{AreLines, TextLine, cut, text_line, text_of}
use Rattle.mk_line.proofs.Cuts.{cut_text}
use Rattle.mk_script.specs.Script.{ScriptWord, Adds, Deletes, Renames, Sets, Bodies, Replaces, Inserts, Removes, Wraps, SetsContent, SetsText, Encodes, Puts, PutsPiece, DropsAll, Appends, AppendsText, Attaches, AttachesText, ScriptLine, Edits, Undoes, Redoes, Begins, Ends, NumberedLine, is_skipped, line_of, lines_from, lines_of}
use Rattle.mk_script.specs.ScriptSteps.{ScriptStep, Makes, Groups, TakesBack, MakesAgain, first_fault, has_end, script_of, steps_from}
use Rattle.mk_script.specs.Written.{IsLine, IsWord, written, written_line}
use Rattle.mk_script.specs.WrittenScripts.{AreSteps, AreWords, IsWrittenStep, step_lines, written_steps}
use Rattle.mk_script.proofs.LineLemmas.{line_of-written}

-- ---- lines

-- no line that says something is skipped
word_kept : (word : ScriptWord) → is_skipped (written word) ≡ false
word_kept (Adds path true field) = refl
word_kept (Adds path false field) = refl
word_kept (Deletes target) = refl
word_kept (Renames target to) = refl
word_kept (Sets target field) = refl
word_kept (Bodies path piece) = refl
word_kept (Replaces path piece) = refl
word_kept (Inserts path place piece) = refl
word_kept (Removes paths) = refl
word_kept (Wraps path subtype boundary) = refl
word_kept (SetsContent path piece) = refl
word_kept (SetsText charset path piece) = refl
word_kept (Encodes path to) = refl
word_kept (Puts path field) = refl
word_kept (PutsPiece path piece) = refl
word_kept (DropsAll path name) = refl
word_kept (Appends path piece) = refl
word_kept (AppendsText path piece) = refl
word_kept (Attaches path media name piece) = refl
word_kept (AttachesText path media piece) = refl

line_kept : (line : ScriptLine) → is_skipped (written_line line) ≡ false
line_kept (Edits word) = word_kept word
line_kept Undoes = refl
line_kept Redoes = refl
line_kept Begins = refl
line_kept Ends = refl

-- lines with their numbers from here on
abbrev numbered : ℕ → List ScriptLine → List NumberedLine
numbered number [] = []
numbered number (line ∷ lines) = (number, Some line) ∷ numbered (number + 1) lines

abbrev MayStand : ℕ → List ScriptLine → Type 0
MayStand count [] = Unit {0}
MayStand count (line ∷ lines) = IsLine count line × MayStand count lines

-- they are read as what they say
lines_read : (count number : ℕ) (lines : List ScriptLine) → MayStand count lines → lines_from count number (map (λ line. text_line (written_line line) Lf) lines) ≡ numbered number lines
lines_read count number [] m = refl
lines_read count number (line ∷ lines) m =
    rw (line_kept line)
    (ap (λ said. (number, said) ∷ lines_from count (number + 1) (map (λ x. text_line (written_line x) Lf) lines)) (line_of-written count line m.0)
    ∙ ap (λ xs. (number, Some line) ∷ xs) (lines_read count (number + 1) lines m.1))

numbered_both : (number : ℕ) (xs ys : List ScriptLine) → numbered number (xs ++ ys) ≡ numbered number xs ++ numbered (number + length xs) ys
numbered_both number [] ys = ap (λ n. numbered n ys) (omega arith)
numbered_both number (x ∷ xs) ys = ap (λ ls. (number, Some x) ∷ ls) (numbered_both (number + 1) xs ys ∙ ap (λ n. numbered (number + 1) xs ++ numbered n ys) (omega arith))

-- ---- a group

-- what stands after `begin`
abbrev inner : ℕ → List (ℕ × ScriptWord) → List NumberedLine → List NumberedLine
inner number words rest = numbered number (map (λ w. Edits w.1) words ++ Ends ∷ []) ++ rest

inner_ends : (number : ℕ) (words : List (ℕ × ScriptWord)) (rest : List NumberedLine) → has_end (inner number words rest) ≡ true
inner_ends number [] rest = refl
inner_ends number (w ∷ ws) rest = inner_ends (number + 1) ws rest

inner_sound : (number : ℕ) (words : List (ℕ × ScriptWord)) (rest : List NumberedLine) → first_fault true (inner number words rest) ≡ first_fault false rest
inner_sound number [] rest = refl
inner_sound number (w ∷ ws) rest = inner_sound (number + 1) ws rest

inner_steps : (count number : ℕ) (before words : List (ℕ × ScriptWord)) (rest : List NumberedLine) → AreWords count number words → steps_from (Some before) (inner number words rest) ≡ Groups (before ++ words) ∷ steps_from None rest
inner_steps count number before [] rest a = ap (λ ws. Groups ws ∷ steps_from None rest) (sym (append-nil before))
inner_steps count number before (w ∷ ws) rest a =
    ap (λ n. steps_from (Some (before ++ (n, w.1) ∷ [])) (inner (number + 1) ws rest)) (sym a.0)
    ∙ (inner_steps count (number + 1) (before ++ w ∷ []) ws rest a.2 ∙ ap (λ xs. Groups xs ∷ steps_from None rest) (append_assoc before (w ∷ []) ws))

-- ---- steps

step_sound : (count number : ℕ) (step : ScriptStep) (rest : List NumberedLine) → first_fault false (numbered number (step_lines step) ++ rest) ≡ first_fault false rest
step_sound count number (Makes line word) rest = refl
step_sound count number (Groups words) rest = rw (inner_ends (number + 1) words rest) (inner_sound (number + 1) words rest)
step_sound count number (TakesBack line) rest = refl
step_sound count number (MakesAgain line) rest = refl

step_back : (count number : ℕ) (step : ScriptStep) (rest : List NumberedLine) → IsWrittenStep count number step → steps_from None (numbered number (step_lines step) ++ rest) ≡ step ∷ steps_from None rest
step_back count number (Makes line word) rest is = ap (λ n. Makes n word ∷ steps_from None rest) (sym is.0)
step_back count number (Groups words) rest is = inner_steps count (number + 1) [] words rest is
step_back count number (TakesBack line) rest is = ap (λ n. TakesBack n ∷ steps_from None rest) (sym is)
step_back count number (MakesAgain line) rest is = ap (λ n. MakesAgain n ∷ steps_from None rest) (sym is)

sound : (count number : ℕ) (steps : List ScriptStep) → first_fault false (numbered number (flat_map step_lines steps)) ≡ None
sound count number [] = refl
sound count number (step ∷ steps) =
    let after = number + length (step_lines step) in
    ap (first_fault false) (numbered_both number (step_lines step) (flat_map step_lines steps)) ∙ (step_sound count number step (numbered after (flat_map step_lines steps)) ∙ sound count after steps)

back : (count number : ℕ) (steps : List ScriptStep) → AreSteps count number steps → steps_from None (numbered number (flat_map step_lines steps)) ≡ steps
back count number [] are = refl
back count number (step ∷ steps) are =
    let after = number + length (step_lines step) in
    ap (steps_from None) (numbered_both number (step_lines step) (flat_map step_lines steps))
    ∙ (step_back count number step (numbered after (flat_map step_lines steps)) are.0 ∙ ap (λ xs. step ∷ xs) (back count after steps are.1))

-- ---- all lines may stand

both_stand : (count : ℕ) (xs ys : List ScriptLine) → MayStand count xs → MayStand count ys → MayStand count (xs ++ ys)
both_stand count [] ys m n = n
both_stand count (x ∷ xs) ys m n = (m.0, both_stand count xs ys m.1 n)

words_stand : (count number : ℕ) (words : List (ℕ × ScriptWord)) → AreWords count number words → MayStand count (map (λ w. Edits w.1) words)
words_stand count number [] a = tt
words_stand count number (w ∷ ws) a = (a.1, words_stand count (number + 1) ws a.2)

step_stands : (count number : ℕ) (step : ScriptStep) → IsWrittenStep count number step → MayStand count (step_lines step)
step_stands count number (Makes line word) is = (is.1, tt)
step_stands count number (Groups words) is = (tt, both_stand count (map (λ w. Edits w.1) words) (Ends ∷ []) (words_stand count (number + 1) words is) (tt, tt))
step_stands count number (TakesBack line) is = (tt, tt)
step_stands count number (MakesAgain line) is = (tt, tt)

steps_stand : (count number : ℕ) (steps : List ScriptStep) → AreSteps count number steps → MayStand count (flat_map step_lines steps)
steps_stand count number [] are = tt
steps_stand count number (step ∷ steps) are =
    both_stand count (step_lines step) (flat_map step_lines steps) (step_stands count number step are.0) (steps_stand count (number + length (step_lines step)) steps are.1)

-- ---- the law

pub scripts_written : (count : ℕ) (steps : List ScriptStep) → AreSteps count 1 steps → AreLines (written_steps steps) → script_of count (text_of (written_steps steps)) ≡ Ok steps
scripts_written count steps are lines =
    let said = flat_map step_lines steps in
    let read : lines_of count (text_of (written_steps steps)) ≡ numbered 1 said = ap (lines_from count 1) (cut_text (written_steps steps) lines) ∙ lines_read count 1 said (steps_stand count 1 steps are) in
    ap (λ ls. option_map_or Err (first_fault false ls) (Ok (steps_from None ls))) read
    ∙ (ap (λ f. option_map_or Err f (Ok (steps_from None (numbered 1 said)))) (sound count 1 steps) ∙ ap Ok (back count 1 steps are))
