-- Paths: their numbers, and the pieces between dots.
use Rattle.std.proofs.Common.{◌≡◌, ◌==◌, ◌+◌, ◌*◌, ◌^◌, ◌<◌, ◌≤◌, ℕ, suc, true, false, nat_lt, List, [], ◌∷◌, length, take, drop, get_or, ◌++◌, Option, Some, None, refl, sym, ap, ◌∙◌, inl, inr, arith, add-one}
use Rattle.std.proofs.Math.Seq.{drop-cons}
use Rattle.std.proofs.lemmas.Bool.{cases_Bool, le-ltb, lt-ltb, ltb-true, ltb-false}
use Rattle.std.proofs.lemmas.List.{drop_all}
use Rattle.std.specs.List.{list_all, onto_first, position_or_len}
use Rattle.std.specs.Char.{digit_value, is_digit}
use Rattle.std.specs.Str.Parse.{digits_value_after}
use Rattle.mk_script.specs.Paths.{parted}
use Rattle.mk_script.specs.inner.Numbers.{number_after, pieces_of}

-- more digits make no smaller number
digits_value_after-ge : (n : ℕ) (digits : List ℕ) → n ≤ digits_value_after 10 n digits
digits_value_after-ge n [] = omega arith
digits_value_after-ge n (d ∷ ds) =
    let rest : n * 10 + digit_value d ≤ digits_value_after 10 (n * 10 + digit_value d) ds = digits_value_after-ge (n * 10 + digit_value d) ds in
    omega arith

number_after-large : (n : ℕ) (digits : List ℕ) → 2 ^ 32 ≤ digits_value_after 10 n digits → number_after n digits ≡ None
number_after-large n digits h =
    let large : nat_lt (digits_value_after 10 n digits) (2 ^ 32) ≡ false = le-ltb _ _ h in
    elim (cases_Bool (list_all (λ byte. is_digit byte 10) digits)) [ inl t ↦ rw (t, large) refl | inr f ↦ rw f refl ]

-- a number that no longer fits with the digit at a place
pub number_after-overflow : (n : ℕ) (text : List ℕ) (place digit : ℕ) → place < length text → digit ≤ digit_value (get_or text place 0)
    → 2 ^ 32 ≤ n * 10 + digit → number_after n (drop place text) ≡ None
number_after-overflow n text place digit within least large =
    let value = digit_value (get_or text place 0) in
    let rest = drop (suc place) text in
    let more : n * 10 + value ≤ digits_value_after 10 (n * 10 + value) rest = digits_value_after-ge (n * 10 + value) rest in
    rw (drop-cons text place 0 within) (number_after-large n (get_or text place 0 ∷ rest) (omega arith))

-- with no digit left the number is read
pub number_after-done : (n : ℕ) (text : List ℕ) (place : ℕ) → n < 2 ^ 32 → length text ≤ place → number_after n (drop place text) ≡ Some n
number_after-done n text place small past =
    let fits : nat_lt n (2 ^ 32) ≡ true = lt-ltb _ _ small in
    rw (drop_all place text past, fits) refl

-- ---- the pieces of a text

some_same : {A : Type 0} {a b : A} → Some a ≡ Some b → a ≡ b
some_same e = cc

none_some : {A : Type 0} {a : A} → None ≡ Some a → ⊥
none_some e = cc

-- where the first separator stands, or the length
abbrev place_of : ℕ → List ℕ → ℕ
place_of separator text = position_or_len (λ byte. byte == separator) text

pieces_of-at : (separator : ℕ) (text : List ℕ) → place_of separator text < length text
    → pieces_of separator text ≡ take (place_of separator text) text ∷ pieces_of separator (drop (suc (place_of separator text)) text)
pieces_of-at separator [] h = absurd (omega arith)
pieces_of-at separator (byte ∷ bytes) h = elim (cases_Bool (byte == separator)) [
  | inl t ↦ rw t refl
  | inr f ↦
      let e : 1 + place_of separator bytes ≡ suc (place_of separator bytes) = omega arith in
      let within : 1 + place_of separator bytes < suc (length bytes) = rw f at h in
      let rest = pieces_of-at separator bytes (omega arith) in
      rw (f, e) (ap (onto_first byte) rest)
]

pieces_of-alone : (separator : ℕ) (text : List ℕ) → length text ≤ place_of separator text → pieces_of separator text ≡ text ∷ []
pieces_of-alone separator [] h = refl
pieces_of-alone separator (byte ∷ bytes) h = elim (cases_Bool (byte == separator)) [
  | inl t ↦ let past : suc (length bytes) ≤ 0 = rw t at h in absurd (omega arith)
  | inr f ↦
      let past : suc (length bytes) ≤ 1 + place_of separator bytes = rw f at h in
      let rest = pieces_of-alone separator bytes (omega arith) in
      rw f (ap (onto_first byte) rest)
]

-- a text with a separator is the piece before it and the pieces after it
pub pieces_of-parted : (separator : ℕ) (text : List ℕ) (p : List ℕ × List ℕ) → parted separator text ≡ Some p
    → pieces_of separator text ≡ p.0 ∷ pieces_of separator p.1
pieces_of-parted separator text p e =
    let place = place_of separator text in
    elim (cases_Bool (nat_lt place (length text))) [
      | inl t ↦
          let found = rw t at e in
          let same : (take place text, drop (place + 1) text) ≡ p = some_same found in
          let cut : pieces_of separator text ≡ take place text ∷ pieces_of separator (drop (place + 1) text) = rw (add-one place) (pieces_of-at separator text (ltb-true _ _ t)) in
          cut ∙ ap (λ (q : List ℕ × List ℕ). q.0 ∷ pieces_of separator q.1) same
      | inr f ↦ absurd (none_some (rw f at e))
    ]

-- a text without a separator is one piece
pub pieces_of-whole : (separator : ℕ) (text : List ℕ) → parted separator text ≡ None → pieces_of separator text ≡ text ∷ []
pieces_of-whole separator text e = elim (cases_Bool (nat_lt (place_of separator text) (length text))) [
  | inl t ↦ absurd (none_some (sym (rw t at e)))
  | inr f ↦ pieces_of-alone separator text (ltb-false _ _ f)
]

-- ---- the numbers of a path

-- numbers that were read, and then those of the rest
abbrev pub numbers_onto : List ℕ → Option (List ℕ) → Option (List ℕ)
numbers_onto read None = None
numbers_onto read (Some numbers) = Some (read ++ numbers)

-- paths that were read, and then those of the rest
abbrev pub paths_onto : List (List ℕ) → Option (List (List ℕ)) → Option (List (List ℕ))
paths_onto read None = None
paths_onto read (Some paths) = Some (read ++ paths)
