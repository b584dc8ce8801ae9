-- The letters of a base64 text, taken run by run.
use Rattle.std.proofs.Common.{◌≡◌, ◌==◌, ◌<◌, ◌-◌, ℕ, suc, false, not, List, [], ◌∷◌, ◌++◌, refl, ap, sym, ◌∙◌, length, take, drop, arith, inl, inr, add-one}
use Rattle.std.proofs.Math.Numerals.{one-add}
use Rattle.std.proofs.lemmas.Bool.{cases_Bool, or_parts}
use Rattle.std.proofs.lemmas.List.{take_rest, drop-drop, nil_from_length}
use Rattle.std.proofs.lemmas.List.Sums.{take_while-cons}
use Rattle.std.specs.List.{filter, prefix_len, take_while}
use Rattle.mk_line.specs.Parting.{has_byte}
use Rattle.mk_code.specs.Base64Text.{is_letter}
use Rattle.mk_code.specs.inner.Strays.{is_stray}
use Rattle.mk_line.specs.Ascii.{equals_sign}

-- what comes before the first `=`
pub before_found : (front following : List ℕ) → has_byte 61 front ≡ false → front ≡ take_while (λ byte. not (byte == equals_sign)) (front ++ 61 ∷ following)
before_found [] following h = sym (take_while-cons (λ byte. not (byte == equals_sign)) 61 following)
before_found (x ∷ xs) following h =
    let parts = or_parts (x == 61) (has_byte 61 xs) h in
    rw (take_while-cons (λ byte. not (byte == equals_sign)) x (xs ++ 61 ∷ following), parts.0) (ap (λ ys. x ∷ ys) (before_found xs following parts.1))

pub before_unfound : (text : List ℕ) → has_byte 61 text ≡ false → text ≡ take_while (λ byte. not (byte == equals_sign)) text
before_unfound [] h = refl
before_unfound (x ∷ xs) h =
    let parts = or_parts (x == 61) (has_byte 61 xs) h in
    rw (take_while-cons (λ byte. not (byte == equals_sign)) x xs, parts.0) (ap (λ ys. x ∷ ys) (before_unfound xs parts.1))

-- the letters at the start, and the letters after the byte that ends them
pub letters_apart : (text : List ℕ) → filter is_letter text ≡ take (prefix_len is_letter text) text ++ filter is_letter (drop (suc (prefix_len is_letter text)) text)
letters_apart [] = refl
letters_apart (x ∷ xs) =
    elim (cases_Bool (is_letter x)) [
      | inl h ↦ rw (h, one-add (prefix_len is_letter xs)) (ap (λ ys. x ∷ ys) (letters_apart xs))
      | inr h ↦ rw h refl
    ]

pub letters_parted : (text run rest : List ℕ) (n : ℕ) → n ≡ prefix_len is_letter text → run ≡ take n text → rest ≡ drop n text → filter is_letter text ≡ run ++ filter is_letter (take (length rest - 1) (drop 1 rest))
letters_parted text run rest n e f g =
    letters_apart text
    ∙ (ap (λ k. take k text ++ filter is_letter (drop (suc k) text)) (sym e)
    ∙ (ap (λ xs. xs ++ filter is_letter (drop (suc n) text)) (sym f)
    ∙ ap (λ xs. run ++ filter is_letter xs) (ap (λ k. drop k text) (sym (add-one n)) ∙ (sym (drop-drop 1 n text) ∙ (ap (drop 1) (sym g) ∙ sym (take_rest rest 1))))))

pub letters_alone : (text run rest : List ℕ) (n : ℕ) → n ≡ prefix_len is_letter text → run ≡ take n text → rest ≡ drop n text → length rest < 1 → filter is_letter text ≡ run ++ filter is_letter rest
letters_alone text run rest n e f g none =
    let empty : rest ≡ [] = nil_from_length rest (omega arith) in
    letters_parted text run rest n e f g ∙ rw empty refl

strays_passed : (text : List ℕ) → filter is_letter (drop (prefix_len is_stray text) text) ≡ filter is_letter text
strays_passed [] = refl
strays_passed (x ∷ xs) =
    elim (cases_Bool (is_letter x)) [
      | inl h ↦ rw (h, h) refl
      | inr h ↦ rw (h, one-add (prefix_len is_stray xs)) (strays_passed xs)
    ]

-- what follows the stray bytes at the start has all the letters
pub letters_after : (text : List ℕ) (n : ℕ) → n ≡ prefix_len is_stray text → filter is_letter (take (length text - n) (drop n text)) ≡ filter is_letter text
letters_after text n e = ap (filter is_letter) (take_rest text n ∙ ap (λ k. drop k text) e) ∙ strays_passed text
