-- A text that stays as it is has no word that is decoded.
use Rattle.mk_code.proofs.WordParts.{parts}
use Rattle.std.proofs.Common.{◌≡◌, ◌==◌, ◌&&◌, ℕ, Bool, true, false, List, [], ◌∷◌, ◌++◌, refl, ap, sym, ◌∙◌, inl, inr, None, append-nil, subst}
use Rattle.std.specs.List.{list_all, onto_first}
use Rattle.std.specs.Str.{bytes_eq}
use Rattle.std.proofs.lemmas.Bool.{cases_Bool, and_parts, and_left, and_right, or_parts}
use Rattle.mk_line.specs.Ascii.{is_blank}
use Rattle.mk_line.specs.Lines.{TextLine, cut, onto_first as line_onto, ending_bytes}
use Rattle.mk_line.specs.declared.cutting.Ending.{Ending}
use Rattle.mk_line.specs.declared.cutting.Ending.TheVariants.{Crlf, Lf, Missing}
use Rattle.mk_line.proofs.Cuts.{cut_other}
use Rattle.mk_head.specs.Unfolding.{contents}
use Rattle.mk_code.specs.EncodedWords.{Run, Gap, Word, run_before, runs, parts_decoded, word_decoded, shown, unfolded, is_shown, has_pair}
use Rattle.mk_code.specs.declared.one_word.Readable.TheVariants.{All}
use Rattle.mk_code.proofs.OutputCuts.{differs, with_other}
use Rattle.mk_code.proofs.Runs.{gap_before}

-- line endings go, other bytes stay
unfold_onto : (byte : ℕ) (ls : List TextLine) → (byte == 13) ≡ false → contents (line_onto byte ls) ≡ byte ∷ contents ls
unfold_onto byte [] h = refl
unfold_onto byte (l ∷ ls) h = rw (with_other byte l h) refl

pub unfold_byte : (byte : ℕ) (text : List ℕ) → (byte == 10) ≡ false → (byte == 13) ≡ false → unfolded (byte ∷ text) ≡ byte ∷ unfolded text
unfold_byte byte text f r = rw (cut_other byte text f) (unfold_onto byte (cut text) r)

pub unfold_run : (p : ℕ → Bool) (run text : List ℕ) → p 10 ≡ false → p 13 ≡ false → list_all p run ≡ true → unfolded (run ++ text) ≡ run ++ unfolded text
unfold_run p [] text f r h = refl
unfold_run p (x ∷ xs) text f r h =
    let both = and_parts (p x) (list_all p xs) h in
    unfold_byte x (xs ++ text) (differs p x 10 f both.0) (differs p x 13 r both.0) ∙ ap (λ ys. x ∷ ys) (unfold_run p xs text f r both.1)

pub unfold_ending : (eol : Ending) (text : List ℕ) → unfolded (ending_bytes eol ++ text) ≡ unfolded text
unfold_ending Crlf text = refl
unfold_ending Lf text = refl
unfold_ending Missing text = refl

-- a word without `=?` isn't decoded
bad_first : (start : List ℕ) (ps : List (List ℕ)) → bytes_eq start (61 ∷ []) ≡ false → parts_decoded (start ∷ ps) ≡ None
bad_first start [] h = refl
bad_first start (a ∷ []) h = refl
bad_first start (a ∷ b ∷ []) h = refl
bad_first start (a ∷ b ∷ c ∷ []) h = refl
bad_first start (a ∷ b ∷ c ∷ d ∷ []) h = rw h refl
bad_first start (a ∷ b ∷ c ∷ d ∷ e ∷ more) h = refl

two_first : (x y : ℕ) (ps : List (List ℕ)) → parts_decoded (onto_first x (onto_first y ps)) ≡ None
two_first x y [] = refl
two_first x y (p ∷ ps) = bad_first (x ∷ y ∷ p) ps (and_right (x == 61) false refl)

and_true : (a b : Bool) → (a && b) ≡ false → b ≡ true → a ≡ false
and_true true b h t = let bad : true ≡ false = sym t ∙ h in absurd (cc bad)
and_true false b h t = refl

unmarked_pair : (x y : ℕ) (ys : List ℕ) → (x == 61 && y == 63) ≡ false → word_decoded (x ∷ y ∷ ys) ≡ None
unmarked_pair x y ys h =
    elim (cases_Bool (x == 63)) [
      | inl q ↦ rw q (bad_first [] (parts (y ∷ ys)) refl)
      | inr n ↦
          elim (cases_Bool (y == 63)) [
            | inl r ↦
                let other : (x == 61) ≡ false = and_true (x == 61) (y == 63) h r in
                rw (n, r) (bad_first (x ∷ []) (parts ys) (and_left (x == 61) true other))
            | inr m ↦ rw (n, m) (two_first x y (parts ys))
          ]
    ]

unmarked_one : (x : ℕ) → word_decoded (x ∷ []) ≡ None
unmarked_one x = elim (cases_Bool (x == 63)) [ inl q ↦ rw q refl | inr n ↦ rw n refl ]

unmarked_word : (word : List ℕ) → has_pair 61 63 word ≡ false → word_decoded word ≡ None
unmarked_word [] h = refl
unmarked_word (x ∷ []) h = unmarked_one x
unmarked_word (x ∷ y ∷ ys) h = unmarked_pair x y ys (or_parts (x == 61 && y == 63) (has_pair 61 63 (y ∷ ys)) h).0

-- no word of the runs has `=?`
abbrev Unmarked : List Run → Type 0
Unmarked [] = Unit {0}
Unmarked (Gap gap ∷ rs) = Unmarked rs
Unmarked (Word word ∷ rs) = (has_pair 61 63 word ≡ false) × Unmarked rs

unmarked_blank : (byte : ℕ) (rs : List Run) → is_blank byte ≡ true → Unmarked rs → Unmarked (run_before byte rs)
unmarked_blank byte [] b h = rw b tt
unmarked_blank byte (Gap gap ∷ rs) b h = rw b h
unmarked_blank byte (Word word ∷ rs) b h = rw b h

unmarked_first : (byte : ℕ) → Unmarked (run_before byte [])
unmarked_first byte = elim (cases_Bool (is_blank byte)) [ inl b ↦ rw b tt | inr d ↦ rw d (refl, tt) ]

unmarked_gap : (byte : ℕ) (gap : List ℕ) (rs : List Run) → is_blank byte ≡ false → Unmarked rs → Unmarked (run_before byte (Gap gap ∷ rs))
unmarked_gap byte gap rs d h = rw d (refl, h)

-- a byte before a word of which the next byte is known
unmarked_next : (byte next : ℕ) (rs : List Run) → is_blank byte ≡ false → is_blank next ≡ false → (byte == 61 && next == 63) ≡ false → Unmarked (run_before next rs) → Unmarked (run_before byte (run_before next rs))
unmarked_next byte next [] d e f h = rw (e, d, f) (refl, tt)
unmarked_next byte next (Gap gap ∷ rs) d e f h =
    let following : (has_pair 61 63 (next ∷ []) ≡ false) × Unmarked rs = (rw e at h) in
    rw (e, d, f) (refl, following.1)
unmarked_next byte next (Word word ∷ rs) d e f h =
    let following : (has_pair 61 63 (next ∷ word) ≡ false) × Unmarked rs = (rw e at h) in
    rw (e, d, f) (following.0, following.1)

unmarked_before : (byte next : ℕ) (rs : List Run) → (byte == 61 && next == 63) ≡ false → Unmarked (run_before next rs) → Unmarked (run_before byte (run_before next rs))
unmarked_before byte next rs f h =
    elim (cases_Bool (is_blank byte)) [
      | inl b ↦ unmarked_blank byte (run_before next rs) b h
      | inr d ↦
          elim (cases_Bool (is_blank next)) [
            | inl b ↦
                let gap = gap_before next rs b in
                let following : Unmarked gap.others = subst Unmarked gap.are h in
                subst (λ ws. Unmarked (run_before byte ws)) (sym gap.are) (unmarked_gap byte gap.gap gap.others d following)
            | inr e ↦ unmarked_next byte next rs d e f h
          ]
    ]

unmarked_runs : (text : List ℕ) → has_pair 61 63 text ≡ false → Unmarked (runs text)
unmarked_runs [] h = tt
unmarked_runs (x ∷ []) h = unmarked_first x
unmarked_runs (x ∷ y ∷ ys) h =
    let both = or_parts (x == 61 && y == 63) (has_pair 61 63 (y ∷ ys)) h in
    unmarked_before x y (runs ys) both.0 (unmarked_runs (y ∷ ys) both.1)

-- runs as bytes
abbrev runs_bytes : List Run → List ℕ
runs_bytes [] = []
runs_bytes (Gap gap ∷ rs) = gap ++ runs_bytes rs
runs_bytes (Word word ∷ rs) = word ++ runs_bytes rs

bytes_before : (byte : ℕ) (rs : List Run) → runs_bytes (run_before byte rs) ≡ byte ∷ runs_bytes rs
bytes_before byte [] = elim (cases_Bool (is_blank byte)) [ inl b ↦ rw b refl | inr d ↦ rw d refl ]
bytes_before byte (Gap gap ∷ rs) = elim (cases_Bool (is_blank byte)) [ inl b ↦ rw b refl | inr d ↦ rw d refl ]
bytes_before byte (Word word ∷ rs) = elim (cases_Bool (is_blank byte)) [ inl b ↦ rw b refl | inr d ↦ rw d refl ]

bytes_runs : (text : List ℕ) → runs_bytes (runs text) ≡ text
bytes_runs [] = refl
bytes_runs (x ∷ xs) = bytes_before x (runs xs) ∙ ap (λ ys. x ∷ ys) (bytes_runs xs)

shown_unmarked : (rs : List Run) → Unmarked rs → shown All false rs ≡ runs_bytes rs
shown_unmarked [] h = refl
shown_unmarked (Gap gap ∷ rs) h = ap (λ xs. gap ++ xs) (shown_unmarked rs h)
shown_unmarked (Word word ∷ rs) h = rw (unmarked_word word h.0) (ap (λ xs. word ++ xs) (shown_unmarked rs h.1))

pub words_kept : (text : List ℕ) → list_all is_shown text ≡ true → has_pair 61 63 text ≡ false → shown All false (runs (unfolded text)) ≡ text
words_kept text s h =
    let whole : unfolded text ≡ text =
    ap unfolded (sym (append-nil text)) ∙ (unfold_run is_shown text [] refl refl s ∙ append-nil text) in
    ap (λ xs. shown All false (runs xs)) whole ∙ (shown_unmarked (runs text) (unmarked_runs text h) ∙ bytes_runs text)
