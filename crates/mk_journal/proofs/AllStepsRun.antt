-- Runs of the scripts for all steps of a journal.
use Rattle.std.proofs.Common.{◌≡◌, ◌+◌, ◌-◌, ◌≤◌, ◌<◌, ◌++◌, ◌∙◌, ℕ, zero, suc, Option, None, Some, Result, Ok, Err, List, [], ◌∷◌, refl, ap, sym, length, map, codes, arith, inl, inr}
use Rattle.std.proofs.lemmas.Bool.{cases_Bool, lt-ltb}
use Rattle.std.proofs.lemmas.List.{length-map}
use Rattle.std.specs.Result.{result_unwrap_or}
use Rattle.mk_line.specs.Ascii.{line_feed}
use Rattle.mk_line.specs.declared.cutting.Ending.TheVariants.{Lf, Missing}
use Rattle.mk_line.specs.Lines.{AreLines, text_of}
use Rattle.mk_decide.specs.Edits.{Undo, Redo}
use Rattle.mk_splice.specs.Splices.{Splice}
use Rattle.mk_splice.specs.Readers.{AllGood}
use Rattle.mk_splice.specs.Grammar.{IsStep, number_of}
use Rattle.mk_splice.specs.Journals.{JournalText, Meaning, belongs, journal, meaning, splice_meant}
use Rattle.mk_splice.specs.Misfits.{misfit}
use Rattle.mk_splice.proofs.Spelled.{found_is_spelled}
use Rattle.mk_edit.specs.History.{History, history_of}
use Rattle.mk_edit.specs.Histories.{first_text, step, text_now}
use Rattle.mk_edit.specs.Saving.{JournalOther, JournalRefusal, JournalSyntax, described, described_by, loaded, unless_misfit}
use Rattle.mk_transfer.specs.Said.{shown}
use Rattle.mk_script.specs.ScriptSteps.{ScriptStep, TakesBack, MakesAgain, script_of}
use Rattle.mk_script.specs.WrittenScripts.{AreSteps, written_steps}
use Rattle.mk_script.proofs.ScriptsWritten.{scripts_written}
use Rattle.mk_expand.specs.Pieces.{Pieces}
use Rattle.mk_run.specs.Journaling.{Onward}
use Rattle.mk_run.specs.Runs.{DoesSteps, errors_of, history_after, ordered_at, report_of, run_begun, run_of, run_steps}
use Rattle.mk_journal.specs.AllSteps.{done_in, times, undone_in}
use Rattle.mk_journal.specs.AllStepsLaws.{RedoAllReaches, UndoAllRestores, last_text}

-- ---- the steps of the scripts

-- steps that take back, from a line on
abbrev pub backs : (line n : ℕ) → List ScriptStep
backs line zero = []
backs line (suc n) = TakesBack line ∷ backs (line + 1) n

-- steps that are made again, from a line on
abbrev pub forths : (line n : ℕ) → List ScriptStep
forths line zero = []
forths line (suc n) = MakesAgain line ∷ forths (line + 1) n

backs_stand : (count line n : ℕ) → AreSteps count line (backs line n)
backs_stand count line zero = tt
backs_stand count line (suc n) = (refl, backs_stand count (line + 1) n)

forths_stand : (count line n : ℕ) → AreSteps count line (forths line n)
forths_stand count line zero = tt
forths_stand count line (suc n) = (refl, forths_stand count (line + 1) n)

lf_ends : {A : Type 0} → Lf ≡ Missing → A
lf_ends e = cc

backs_lines : (line n : ℕ) → AreLines (written_steps (backs line n))
backs_lines line zero = tt
backs_lines line (suc n) = (record { no_feed = refl; ends_well = refl }, λ e. lf_ends e, backs_lines (line + 1) n)

forths_lines : (line n : ℕ) → AreLines (written_steps (forths line n))
forths_lines line zero = tt
forths_lines line (suc n) = (record { no_feed = refl; ends_well = refl }, λ e. lf_ends e, forths_lines (line + 1) n)

backs_text : (line n : ℕ) → text_of (written_steps (backs line n)) ≡ times (codes "undo" ++ line_feed ∷ []) n
backs_text line zero = refl
backs_text line (suc n) = ap (λ t. (codes "undo" ++ line_feed ∷ []) ++ t) (backs_text (line + 1) n)

forths_text : (line n : ℕ) → text_of (written_steps (forths line n)) ≡ times (codes "redo" ++ line_feed ∷ []) n
forths_text line zero = refl
forths_text line (suc n) = ap (λ t. (codes "redo" ++ line_feed ∷ []) ++ t) (forths_text (line + 1) n)

backs_read : (count n : ℕ) → script_of count (times (codes "undo" ++ line_feed ∷ []) n) ≡ Ok (backs 1 n)
backs_read count n = ap (script_of count) (sym (backs_text 1 n)) ∙ scripts_written count (backs 1 n) (backs_stand count 1 n) (backs_lines 1 n)

forths_read : (count n : ℕ) → script_of count (times (codes "redo" ++ line_feed ∷ []) n) ≡ Ok (forths 1 n)
forths_read count n = ap (script_of count) (sym (forths_text 1 n)) ∙ scripts_written count (forths 1 n) (forths_stand count 1 n) (forths_lines 1 n)

-- ---- what they leave

-- a history at another place
abbrev standing : List (List ℕ) → List (List Splice) → ℕ → History
standing texts steps place = record { texts = texts; steps = steps; place = place }

one_back : (texts : List (List ℕ)) (steps : List (List Splice)) (n : ℕ) → step Undo (standing texts steps (suc n)) ≡ Ok (standing texts steps n)
one_back texts steps n =
    let less : suc n - 1 ≡ n = omega arith in
    rw (lt-ltb 0 (suc n) (omega arith)) (ap (λ p. Ok (standing texts steps p)) less)

one_forth : (texts : List (List ℕ)) (steps : List (List Splice)) (n : ℕ) → n < length steps → step Redo (standing texts steps n) ≡ Ok (standing texts steps (n + 1))
one_forth texts steps n h = rw (lt-ltb n (length steps) h) refl

all_back : (pieces : Pieces) (line n : ℕ) (texts : List (List ℕ)) (steps : List (List Splice)) → history_after pieces (backs line n) (standing texts steps n) ≡ standing texts steps 0
all_back pieces line zero texts steps = refl
all_back pieces line (suc n) texts steps =
    ap (λ r. history_after pieces (backs (line + 1) n) (result_unwrap_or (ordered_at line r) (standing texts steps (suc n)))) (one_back texts steps n)
    ∙ all_back pieces (line + 1) n texts steps

none_reported : (pieces : Pieces) (line n : ℕ) (texts : List (List ℕ)) (steps : List (List Splice)) → errors_of pieces (backs line n) (standing texts steps n) ≡ []
none_reported pieces line zero texts steps = refl
none_reported pieces line (suc n) texts steps =
    ap (λ r. report_of (ordered_at line r) ++ errors_of pieces (backs (line + 1) n) (result_unwrap_or (ordered_at line r) (standing texts steps (suc n)))) (one_back texts steps n)
    ∙ none_reported pieces (line + 1) n texts steps

all_forth : (pieces : Pieces) (line n place : ℕ) (texts : List (List ℕ)) (steps : List (List Splice)) → place + n ≤ length steps
    → history_after pieces (forths line n) (standing texts steps place) ≡ standing texts steps (place + n)
all_forth pieces line zero place texts steps h = let same : place ≡ place + 0 = omega arith in ap (standing texts steps) same
all_forth pieces line (suc n) place texts steps h =
    let next : place + 1 + n ≡ place + suc n = omega arith in
    ap (λ r. history_after pieces (forths (line + 1) n) (result_unwrap_or (ordered_at line r) (standing texts steps place))) (one_forth texts steps place (omega (arith, h)))
    ∙ (all_forth pieces (line + 1) n (place + 1) texts steps (omega (arith, h)) ∙ ap (standing texts steps) next)

none_reported_forth : (pieces : Pieces) (line n place : ℕ) (texts : List (List ℕ)) (steps : List (List Splice)) → place + n ≤ length steps
    → errors_of pieces (forths line n) (standing texts steps place) ≡ []
none_reported_forth pieces line zero place texts steps h = refl
none_reported_forth pieces line (suc n) place texts steps h =
    ap (λ r. report_of (ordered_at line r) ++ errors_of pieces (forths (line + 1) n) (result_unwrap_or (ordered_at line r) (standing texts steps place))) (one_forth texts steps place (omega (arith, h)))
    ∙ none_reported_forth pieces (line + 1) n (place + 1) texts steps (omega (arith, h))

-- ---- the histories that journals describe

refused_never : {A : Type 0} (r : JournalRefusal) (h : History) → ◌≡◌ {A = Result History JournalRefusal} (Err r) (Ok h) → A
refused_never r h e = cc

fits_only : (o : Option ℕ) (g h : History) → unless_misfit o g ≡ Ok h → g ≡ h
fits_only None g h e = cc
fits_only (Some n) g h e = cc

described_so : (text : List ℕ) (m : Meaning) (h : History) → described text m ≡ Ok h → history_of text m.steps m.done ≡ h
described_so text m h e = elim (cases_Bool (belongs m.digest text)) [
  | inl t ↦ fits_only (misfit text m.steps m.done) (history_of text m.steps m.done) h (rw t at e)
  | inr f ↦ refused_never JournalOther h (rw f at e)
]

good_count : {A : Type 0} (G : A → Type 0) (n : ℕ) (xs : List A) → AllGood G n xs → length xs ≡ n
good_count G zero [] g = refl
good_count G zero (x ∷ xs) g = absurd g
good_count G (suc n) [] g = absurd g
good_count G (suc n) (x ∷ xs) g = let more = good_count G n xs g.1 in omega (arith, more)

-- a journal that is read has no more steps done than it has
done_within : (file : List ℕ) (j : JournalText) → journal file ≡ Ok j → (meaning j).done ≤ length (meaning j).steps
done_within file j e =
    let count = good_count (IsStep j.version) (number_of j.done + number_of j.undone) j.steps (found_is_spelled file j e).0.steps in
    omega (arith, count, length-map j.steps (λ s. map splice_meant s.entries))

-- ---- the laws

run_told : (pieces : Pieces) (file message script : List ℕ) (steps : List ScriptStep) (h : History) → script_of (length pieces.texts) script ≡ Ok steps → loaded message file ≡ Ok h
    → (run_of pieces (Onward file) message script).run ≡ shown (text_now (history_after pieces steps h)) (errors_of pieces steps h)
run_told pieces file message script steps h s l =
    ap (λ r. (run_steps pieces (Onward file) message r).run) s ∙ ap (λ r. (run_begun (DoesSteps pieces steps) (Onward file) r).run) l

back_run : (pieces : Pieces) (text : List ℕ) (steps : List (List Splice)) (n : ℕ) (h : History) → history_of text steps n ≡ h
    → shown (text_now (history_after pieces (backs 1 n) h)) (errors_of pieces (backs 1 n) h) ≡ shown (first_text h) []
back_run pieces text steps n h e =
    let g = history_of text steps n in
    ap (λ k. shown (text_now (history_after pieces (backs 1 n) k)) (errors_of pieces (backs 1 n) k)) (sym e)
    ∙ (ap (λ k. shown (text_now k) (errors_of pieces (backs 1 n) g)) (all_back pieces 1 n g.texts steps)
    ∙ (ap (shown (first_text g)) (none_reported pieces 1 n g.texts steps) ∙ ap (λ k. shown (first_text k) []) e))

forth_run : (pieces : Pieces) (text : List ℕ) (steps : List (List Splice)) (n done : ℕ) (h : History) → history_of text steps done ≡ h → done + n ≡ length steps
    → shown (text_now (history_after pieces (forths 1 n) h)) (errors_of pieces (forths 1 n) h) ≡ shown (last_text h) []
forth_run pieces text steps n done h e size =
    let g = history_of text steps done in
    let within : done + n ≤ length steps = omega (arith, size) in
    ap (λ k. shown (text_now (history_after pieces (forths 1 n) k)) (errors_of pieces (forths 1 n) k)) (sym e)
    ∙ (ap (λ k. shown (text_now k) (errors_of pieces (forths 1 n) g)) (all_forth pieces 1 n done g.texts steps within ∙ ap (standing g.texts steps) size)
    ∙ (ap (shown (last_text g)) (none_reported_forth pieces 1 n done g.texts steps within) ∙ ap (λ k. shown (last_text k) []) e))

undone_by : (pieces : Pieces) (file message : List ℕ) (h : History) (r : Result JournalText ℕ) → journal file ≡ r → described_by message r ≡ Ok h → loaded message file ≡ Ok h
    → (run_of pieces (Onward file) message (times (codes "undo" ++ line_feed ∷ []) (done_in r))).run ≡ shown (first_text h) []
undone_by pieces file message h (Ok j) e d l =
    run_told pieces file message (times (codes "undo" ++ line_feed ∷ []) (meaning j).done) (backs 1 (meaning j).done) h (backs_read (length pieces.texts) (meaning j).done) l
    ∙ back_run pieces message (meaning j).steps (meaning j).done h (described_so message (meaning j) h d)
undone_by pieces file message h (Err offset) e d l = refused_never (JournalSyntax offset) h d

pub undo_all_lem : UndoAllRestores
undo_all_lem pieces file message h l = undone_by pieces file message h (journal file) refl l l

redone_by : (pieces : Pieces) (file message : List ℕ) (h : History) (r : Result JournalText ℕ) → journal file ≡ r → described_by message r ≡ Ok h → loaded message file ≡ Ok h
    → (run_of pieces (Onward file) message (times (codes "redo" ++ line_feed ∷ []) (undone_in r))).run ≡ shown (last_text h) []
redone_by pieces file message h (Ok j) e d l =
    let n = length (meaning j).steps - (meaning j).done in
    run_told pieces file message (times (codes "redo" ++ line_feed ∷ []) n) (forths 1 n) h (forths_read (length pieces.texts) n) l
    ∙ forth_run pieces message (meaning j).steps n (meaning j).done h (described_so message (meaning j) h d) (omega (arith, done_within file j e))
redone_by pieces file message h (Err offset) e d l = refused_never (JournalSyntax offset) h d

pub redo_all_lem : RedoAllReaches
redo_all_lem pieces file message h l = redone_by pieces file message h (journal file) refl l l
