-- Base64 in an encoded word is base64 as everywhere.
use Rattle.std.proofs.Common.{◌≡◌, ◌==◌, ◌<◌, ◌↔◌, ◌&&◌, ℕ, zero, suc, Bool, true, false, not, Some, Result, Ok, Err, List, [], ◌∷◌, length, drop, filter, take_while, nat_le, refl, ap, sym, ◌∙◌, subst, arith, inl, inr}
use Rattle.std.proofs.lemmas.Bool.{and_parts, cases_Bool, eqb-true, leb-true}
use Rattle.std.proofs.lemmas.List.Sums.{take_while-cons}
use Rattle.std.specs.List.{list_all}
use Rattle.std.specs.Result.{result_ok}
use Rattle.base64.specs.declared.decode.DecodeError.{DecodeError}
use Rattle.base64.specs.Engines.{standard_no_pad}
use Rattle.base64.specs.GeneralPurpose.{IsBytes, decode_of, decoded_of}
use Rattle.base64.proofs.EngineFacts.{decode_of_iff}
use Rattle.mk_code.specs.Base64Text.{IsBase64Of, is_letter, letters}
use Rattle.mk_code.specs.EncodedWords.{b_text, is_padding}
use Rattle.mk_code.proofs.WordParts.{decoded_ok}

-- letters are bytes
within : (low high x : ℕ) → high < 256 → (nat_le low x && nat_le x high) ≡ true → x < 256
within low high x small h = let top = leb-true x high (and_parts (nat_le low x) (nat_le x high) h).1 in omega (arith, top, small)

letter_byte : (x : ℕ) → is_letter x ≡ true → x < 256
letter_byte x h = elim (cases_Bool (nat_le 65 x && nat_le x 90)) [
  | inl a ↦ within 65 90 x (omega arith) a
  | inr a ↦ elim (cases_Bool (nat_le 97 x && nat_le x 122)) [
    | inl b ↦ within 97 122 x (omega arith) b
    | inr b ↦ elim (cases_Bool (nat_le 48 x && nat_le x 57)) [
      | inl c ↦ within 48 57 x (omega arith) c
      | inr c ↦ elim (cases_Bool (x == 43)) [
        | inl d ↦ omega (arith, eqb-true x 43 d)
        | inr d ↦ let last : (x == 47) ≡ true = rw (a, b, c, d) at h in omega (arith, eqb-true x 47 last)
      ]
    ]
  ]
]

first_byte : (x : ℕ) (xs : List ℕ) → x < 256 → IsBytes xs → IsBytes (x ∷ xs)
first_byte x xs h hs zero = h
first_byte x xs h hs (suc i) = hs i

pub letters_are_bytes : (xs : List ℕ) → IsBytes (filter is_letter xs)
letters_are_bytes [] = λ i. omega arith
letters_are_bytes (x ∷ xs) = elim (cases_Bool (is_letter x)) [
  | inl h ↦ rw h (λ i. first_byte x (filter is_letter xs) (letter_byte x h) (letters_are_bytes xs) i)
  | inr h ↦ rw h (letters_are_bytes xs)
]

abbrev is_equals : ℕ → Bool
is_equals byte = byte == 61

-- a letter is no equals sign
no_equals : (x : ℕ) → is_letter x ≡ true → (x == 61) ≡ false
no_equals x h = elim (cases_Bool (x == 61)) [
  | inl e ↦ absurd (let no : is_letter 61 ≡ true = subst (λ y. is_letter y ≡ true) (eqb-true x 61 e) h in cc)
  | inr n ↦ n
]

-- letters with nothing but equals signs after them
letters_before : (text : List ℕ) → list_all is_equals (drop (length (take_while is_letter text)) text) ≡ true → letters text ≡ take_while is_letter text
letters_before [] h = refl
letters_before (x ∷ xs) h = elim (cases_Bool (is_letter x)) [
  | inl l ↦
      let run : take_while is_letter (x ∷ xs) ≡ x ∷ take_while is_letter xs = take_while-cons is_letter x xs ∙ rw l refl in
      let rest : list_all is_equals (drop (length (take_while is_letter xs)) xs) ≡ true = ap (λ ys. list_all is_equals (drop (length ys) (x ∷ xs))) (sym run) ∙ h in
      let front : take_while (λ byte. not (byte == 61)) (x ∷ xs) ≡ x ∷ take_while (λ byte. not (byte == 61)) xs = take_while-cons (λ byte. not (byte == 61)) x xs ∙ rw (no_equals x l) refl in
      ap (filter is_letter) front ∙ (rw l (ap (λ ys. x ∷ ys) (letters_before xs rest)) ∙ sym run)
  | inr n ↦
      let run : take_while is_letter (x ∷ xs) ≡ [] = take_while-cons is_letter x xs ∙ rw n refl in
      let rest : list_all is_equals (x ∷ xs) ≡ true = ap (λ ys. list_all is_equals (drop (length ys) (x ∷ xs))) (sym run) ∙ h in
      let equals : (x == 61) ≡ true = (and_parts (x == 61) (list_all is_equals xs) rest).0 in
      let front : take_while (λ byte. not (byte == 61)) (x ∷ xs) ≡ [] = take_while-cons (λ byte. not (byte == 61)) x xs ∙ rw equals refl in
      ap (filter is_letter) front ∙ sym run
]

read_ok : (r : Result (List ℕ) DecodeError) (bytes : List ℕ) → result_ok r ≡ Some bytes → r ≡ Ok bytes
read_ok (Ok xs) bytes h = cc
read_ok (Err e) bytes h = absurd (cc)

decoded_is : (text bytes : List ℕ) → decoded_of standard_no_pad text ≡ Some bytes → decode_of standard_no_pad text ≡ Ok bytes
unfolding decoded_of
decoded_is text bytes h = read_ok (decode_of standard_no_pad text) bytes h

-- where only padding follows the letters of a word, it says the bytes whose base64 it is
pub words_are_base64 : (text bytes : List ℕ) → is_padding (drop (length (take_while is_letter text)) text) ≡ true → IsBytes bytes → (b_text text ≡ Some bytes) ↔ IsBase64Of text bytes
words_are_base64 text bytes padded small =
    let front = take_while is_letter text in
    let same : letters text ≡ front = letters_before text (and_parts (nat_le (length (drop (length front) text)) 2) (list_all is_equals (drop (length front) text)) padded).1 in
    let bytes_front : IsBytes front = subst IsBytes same (letters_are_bytes (take_while (λ byte. not (byte == 61)) text)) in
    let both = decode_of_iff standard_no_pad front bytes (refl, refl) bytes_front small in
    let read : b_text text ≡ decoded_of standard_no_pad front = rw padded refl in (
      λ h. (small, same ∙ both.0 (decoded_is front bytes (sym read ∙ h))),
      λ h. read ∙ decoded_ok front bytes (both.1 (sym same ∙ h.1)),
    )
