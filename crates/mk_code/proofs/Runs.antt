-- A value as words and runs of blanks in turn.
use Rattle.std.proofs.Common.{◌≡◌, ◌&&◌, ◌<◌, ◌≤◌, ◌+◌, if◌then◌else◌, ℕ, Bool, true, false, not, List, [], ◌∷◌, ◌++◌, refl, ap, sym, ◌∙◌, length, take, drop, arith, inl, inr, length-drop}
use Rattle.std.proofs.Math.Numerals.{one-add}
use Rattle.std.specs.Prelude.{is_some, unwrap_or}
use Rattle.std.specs.List.{prefix_len}
use Rattle.std.proofs.lemmas.Bool.{cases_Bool}
use Rattle.mk_line.specs.Ascii.{is_blank}
use Rattle.mk_code.specs.EncodedWords.{Run, Gap, Word, run_before, runs, word_read, shown}
use Rattle.mk_code.specs.declared.one_word.Readable.{Readable}
use Rattle.mk_code.specs.declared.one_word.Readable.TheVariants.{All, Texts}

abbrev pub is_dark : ℕ → Bool
is_dark byte = not (is_blank byte)

-- a blank before runs begins a gap
pub record BeginsGap (rs : List Run) : Type 0 where
  pub gap : List ℕ
  pub others : List Run
  pub are : rs ≡ Gap gap ∷ others

pub gap_before : (byte : ℕ) (rs : List Run) → is_blank byte ≡ true → BeginsGap (run_before byte rs)
gap_before byte [] h = rw h (record { gap = byte ∷ []; others = []; are = refl })
gap_before byte (Gap gap ∷ rs) h = rw h (record { gap = byte ∷ gap; others = rs; are = refl })
gap_before byte (Word word ∷ rs) h = rw h (record { gap = byte ∷ []; others = Word word ∷ rs; are = refl })

-- another byte before runs begins a word
pub record BeginsWord (rs : List Run) : Type 0 where
  pub word : List ℕ
  pub others : List Run
  pub are : rs ≡ Word word ∷ others

pub word_before : (byte : ℕ) (rs : List Run) → is_blank byte ≡ false → BeginsWord (run_before byte rs)
word_before byte [] h = rw h (record { word = byte ∷ []; others = []; are = refl })
word_before byte (Gap gap ∷ rs) h = rw h (record { word = byte ∷ []; others = Gap gap ∷ rs; are = refl })
word_before byte (Word word ∷ rs) h = rw h (record { word = byte ∷ word; others = rs; are = refl })

dark_gap : (byte : ℕ) (gap : List ℕ) (rs : List Run) → is_blank byte ≡ false → run_before byte (Gap gap ∷ rs) ≡ Word (byte ∷ []) ∷ Gap gap ∷ rs
dark_gap byte gap rs h = rw h refl

dark_word : (byte : ℕ) (word : List ℕ) (rs : List Run) → is_blank byte ≡ false → run_before byte (Word word ∷ rs) ≡ Word (byte ∷ word) ∷ rs
dark_word byte word rs h = rw h refl

blank_gap : (byte : ℕ) (gap : List ℕ) (rs : List Run) → is_blank byte ≡ true → run_before byte (Gap gap ∷ rs) ≡ Gap (byte ∷ gap) ∷ rs
blank_gap byte gap rs h = rw h refl

blank_word : (byte : ℕ) (word : List ℕ) (rs : List Run) → is_blank byte ≡ true → run_before byte (Word word ∷ rs) ≡ Gap (byte ∷ []) ∷ Word word ∷ rs
blank_word byte word rs h = rw h refl

-- the word at the start
word_front : (byte : ℕ) (rest : List ℕ) → is_blank byte ≡ false → runs (byte ∷ rest) ≡ Word (byte ∷ take (prefix_len is_dark rest) rest) ∷ runs (drop (prefix_len is_dark rest) rest)
word_front byte [] h = rw h refl
word_front byte (x ∷ xs) h =
    elim (cases_Bool (is_blank x)) [
      | inl b ↦
          let first = gap_before x (runs xs) b in
          rw b (ap (run_before byte) first.are ∙ (dark_gap byte first.gap first.others h ∙ ap (λ rs. Word (byte ∷ []) ∷ rs) (sym first.are)))
      | inr d ↦
          rw (d, one-add (prefix_len is_dark xs)) (ap (run_before byte) (word_front x xs d) ∙ dark_word byte (x ∷ take (prefix_len is_dark xs) xs) (runs (drop (prefix_len is_dark xs) xs)) h)
    ]

-- the gap at the start
gap_front : (byte : ℕ) (rest : List ℕ) → is_blank byte ≡ true → runs (byte ∷ rest) ≡ Gap (byte ∷ take (prefix_len is_blank rest) rest) ∷ runs (drop (prefix_len is_blank rest) rest)
gap_front byte [] h = rw h refl
gap_front byte (x ∷ xs) h =
    elim (cases_Bool (is_blank x)) [
      | inl b ↦
          rw (b, one-add (prefix_len is_blank xs)) (ap (run_before byte) (gap_front x xs b) ∙ blank_gap byte (x ∷ take (prefix_len is_blank xs) xs) (runs (drop (prefix_len is_blank xs) xs)) h)
      | inr d ↦
          let first = word_before x (runs xs) d in
          rw d (ap (run_before byte) first.are ∙ (blank_word byte first.word first.others h ∙ ap (λ rs. Gap (byte ∷ []) ∷ rs) (sym first.are)))
    ]

-- what follows the blanks at the start doesn't begin with one
abbrev IsPastGap : List ℕ → Type 0
IsPastGap [] = Unit {0}
IsPastGap (x ∷ xs) = is_blank x ≡ false

past_gap : (text : List ℕ) → IsPastGap (drop (prefix_len is_blank text) text)
past_gap [] = tt
past_gap (x ∷ xs) = elim (cases_Bool (is_blank x)) [
  | inl b ↦ rw (b, one-add (prefix_len is_blank xs)) (past_gap xs)
  | inr d ↦ rw d d
]

-- what is shown of a gap and a word, after a decoded word or not
abbrev pair_shown : Readable → Bool → List ℕ → List ℕ → List ℕ → List ℕ
pair_shown which after gap word following =
    (if after && is_some (word_read which word) then [] else gap) ++ (unwrap_or (word_read which word) word ++ shown which (is_some (word_read which word)) (runs following))

same_if : (t : Bool) (xs : List ℕ) → (if t then xs else xs) ≡ xs
same_if true xs = refl
same_if false xs = refl

shown_word : (which : Readable) (after : Bool) (byte : ℕ) (rest : List ℕ) → is_blank byte ≡ false → shown which after (runs (byte ∷ rest)) ≡ pair_shown which after [] (byte ∷ take (prefix_len is_dark rest) rest) (drop (prefix_len is_dark rest) rest)
shown_word which after byte rest h =
    let word = byte ∷ take (prefix_len is_dark rest) rest in
    ap (shown which after) (word_front byte rest h)
    ∙ ap (λ xs. xs ++ (unwrap_or (word_read which word) word ++ shown which (is_some (word_read which word)) (runs (drop (prefix_len is_dark rest) rest)))) (sym (same_if (after && is_some (word_read which word)) []))

-- a gap, and what follows it
shown_gap : (which : Readable) (after : Bool) (gap rest : List ℕ) → IsPastGap rest → shown which after (Gap gap ∷ runs rest) ≡ pair_shown which after gap (take (prefix_len is_dark rest) rest) (drop (prefix_len is_dark rest) rest)
shown_gap All after gap [] h = refl
shown_gap Texts after gap [] h = refl
shown_gap which after gap (x ∷ xs) h =
    rw (h, one-add (prefix_len is_dark xs)) (ap (λ rs. shown which after (Gap gap ∷ rs)) (word_front x xs h))

pub front_shown : (which : Readable) (text : List ℕ) → 0 < length text → (after : Bool) →
    let gap = take (prefix_len is_blank text) text in
    let rest = drop (prefix_len is_blank text) text in
    shown which after (runs text) ≡ pair_shown which after gap (take (prefix_len is_dark rest) rest) (drop (prefix_len is_dark rest) rest)
front_shown which [] o after = absurd (omega (arith, o))
front_shown which (x ∷ xs) o after =
    elim (cases_Bool (is_blank x)) [
      | inl b ↦
          rw (b, one-add (prefix_len is_blank xs))
          (ap (shown which after) (gap_front x xs b) ∙ shown_gap which after (x ∷ take (prefix_len is_blank xs) xs) (drop (prefix_len is_blank xs) xs) (past_gap xs))
      | inr d ↦ rw (d, d, one-add (prefix_len is_dark xs)) (shown_word which after x xs d)
    ]

-- the same by the lengths that were counted
pub front_split : (text gap rest word following : List ℕ) (n m : ℕ) → 0 < length text → n ≡ prefix_len is_blank text → gap ≡ take n text → rest ≡ drop n text → m ≡ prefix_len is_dark rest → word ≡ take m rest → following ≡ drop m rest
    → (which : Readable) (after : Bool) → shown which after (runs text) ≡ pair_shown which after gap word following
front_split text gap rest word following n m o en eg er em ew eb which after =
    let whole : rest ≡ drop (prefix_len is_blank text) text = er ∙ ap (λ k. drop k text) en in
    front_shown which text o after
    ∙ (ap (λ xs. pair_shown which after (take (prefix_len is_blank text) text) (take (prefix_len is_dark xs) xs) (drop (prefix_len is_dark xs) xs)) (sym whole)
    ∙ (ap (λ k. pair_shown which after (take k text) (take (prefix_len is_dark rest) rest) (drop (prefix_len is_dark rest) rest)) (sym en)
    ∙ (ap (λ k. pair_shown which after (take n text) (take k rest) (drop k rest)) (sym em)
    ∙ (ap (λ xs. pair_shown which after xs (take m rest) (drop m rest)) (sym eg)
    ∙ (ap (λ xs. pair_shown which after gap xs (drop m rest)) (sym ew) ∙ ap (pair_shown which after gap word) (sym eb))))))

-- something is taken off
front_some : (text : List ℕ) → 0 < length text → 0 < prefix_len is_blank text + prefix_len is_dark (drop (prefix_len is_blank text) text)
front_some [] o = absurd (omega (arith, o))
front_some (x ∷ xs) o =
    elim (cases_Bool (is_blank x)) [
      | inl b ↦ rw b (omega arith)
      | inr d ↦ rw (d, d) (omega arith)
    ]

pub front_less : (text rest following : List ℕ) (n m : ℕ) → 0 < length text → n ≡ prefix_len is_blank text → n ≤ length text → rest ≡ drop n text → m ≡ prefix_len is_dark rest → m ≤ length rest → following ≡ drop m rest → length following < length text
front_less text rest following n m o en ln er em lm eb =
    let whole : rest ≡ drop (prefix_len is_blank text) text = er ∙ ap (λ k. drop k text) en in
    let some : 0 < prefix_len is_blank text + prefix_len is_dark rest = rw whole (front_some text o) in
    omega (arith, ap length eb, ap length er, length-drop m rest, length-drop n text, some, en, em)
