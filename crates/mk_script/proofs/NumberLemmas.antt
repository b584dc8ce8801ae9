-- The numbers of paths, as they are written.
use Rattle.std.proofs.Common.{◌≡◌, ◌≢◌, ◌==◌, ◌+◌, ◌^◌, ◌<◌, ℕ, zero, suc, true, false, nat_lt, List, [], ◌∷◌, length, get_or, Some, None, refl, sym, ap, ◌∙◌, inl, inr, arith}
use Rattle.std.proofs.lemmas.Bool.{cases_Bool, ne_eqb, lt-ltb, ltb-true}
use Rattle.std.proofs.lemmas.Bool.Decides.{eqb_tells}
use Rattle.std.proofs.lemmas.Fmt.{decimal-digits_value, decimal_is_IsNumeral, decimal_nonempty, first_decimal, decimal_digit}
use Rattle.std.proofs.lemmas.Str.Parse.{numerals_by_value, tells_digits, IsNumeralModel}
use Rattle.std.specs.Fmt.{decimal}
use Rattle.std.specs.List.{list_all}
use Rattle.std.specs.Char.{digit_value, is_digit}
use Rattle.std.specs.Str.Parse.{AllDigits, digits_value}
use Rattle.mk_script.specs.Paths.{number_of, zero_digit}
use Rattle.mk_script.specs.inner.Numbers.{number_after}

pub some_same : {A : Type 0} {a b : A} → Some a ≡ Some b → a ≡ b
some_same e = cc

pub none_some : {A : Type 0} {a : A} → None ≡ Some a → ⊥
none_some e = cc

digits_hold : (digits : List ℕ) → list_all (λ byte. is_digit byte 10) digits ≡ true → AllDigits 10 digits
digits_hold [] h = tt
digits_hold (d ∷ ds) h = elim (cases_Bool (nat_lt (digit_value d) 10)) [
  | inl t ↦ (ltb-true _ _ t, digits_hold ds (rw t at h))
  | inr f ↦ let bad : false ≡ true = rw f at h in absurd (cc)
]

digits_tell : (digits : List ℕ) → AllDigits 10 digits → list_all (λ byte. is_digit byte 10) digits ≡ true
digits_tell [] h = refl
digits_tell (d ∷ ds) h = let small : nat_lt (digit_value d) 10 ≡ true = lt-ltb _ _ h.0 in rw small (digits_tell ds h.1)

decimals : IsNumeralModel (AllDigits 10) (digits_value 10)
decimals = numerals_by_value (AllDigits 10) tells_digits

-- only zero is written with a zero at the start
positive_from : (n byte : ℕ) (bytes : List ℕ) → byte ≢ zero_digit → decimal n ≡ byte ∷ bytes → 0 < n
positive_from zero byte bytes first e =
    let same : (48 + 0) ∷ [] ≡ byte ∷ bytes = sym (decimal_digit 0 (omega arith)) ∙ e in
    absurd (first (sym (ap (λ digits. get_or digits 0 0) same)))
positive_from (suc n) byte bytes first e = omega arith

-- a number that is read was written in decimal digits
number_after-decimal : (n byte : ℕ) (bytes : List ℕ) → byte ≢ zero_digit → number_after 0 (byte ∷ bytes) ≡ Some n
    → (0 < n) × (n < 2 ^ 32) × (byte ∷ bytes ≡ decimal n)
number_after-decimal n byte bytes first e =
    let text = byte ∷ bytes in
    let value = digits_value 10 text in
    elim (cases_Bool (list_all (λ b. is_digit b 10) text)) [
      | inr f ↦ absurd (none_some (rw f at e))
      | inl t ↦ elim (cases_Bool (nat_lt value (2 ^ 32))) [
        | inr g ↦ absurd (none_some (rw (t, g) at e))
        | inl u ↦
            let same : value ≡ n = some_same (rw (t, u) at e) in
            let small : value < 2 ^ 32 = ltb-true _ _ u in
            let is : decimal value ≡ text = decimal-digits_value decimals text (digits_hold text t) (omega arith) (λ z. absurd (first z)) (omega arith) in
            let positive : 0 < value = positive_from value byte bytes first is in
            (omega arith, omega arith, sym is ∙ ap decimal same)
      ]
    ]

pub number_of-decimal : (text : List ℕ) (n : ℕ) → number_of text ≡ Some n → (0 < n) × (n < 2 ^ 32) × (text ≡ decimal n)
number_of-decimal [] n e = absurd (none_some e)
number_of-decimal (byte ∷ bytes) n e = elim (eqb_tells byte zero_digit) [
  | inl h ↦ absurd (none_some (rw h.0 at e))
  | inr h ↦ number_after-decimal n byte bytes h.1 (rw h.0 at e)
]

number_of-text : (text : List ℕ) (n : ℕ) → text ≡ decimal n → 0 < n → n < 2 ^ 32 → number_of text ≡ Some n
number_of-text [] n e positive small =
    let some : 0 < length (decimal n) = decimal_nonempty n (omega arith) in
    let none : 0 ≡ length (decimal n) = ap length e in
    absurd (omega arith)
number_of-text (byte ∷ bytes) n e positive small =
    let numeral = rw (← e) at (decimal_is_IsNumeral n (omega arith)) in
    let first : 48 < byte = rw (← e) at (first_decimal n positive (omega arith)) in
    let other : (byte == zero_digit) ≡ false = ne_eqb byte zero_digit (λ z. absurd (omega arith)) in
    let digits = digits_tell (byte ∷ bytes) numeral.0.1 in
    let fits : nat_lt n (2 ^ 32) ≡ true = lt-ltb _ _ small in
    rw (other, digits, numeral.1, fits) refl

-- a number from 1 on that fits is read as it is written
pub number_of-written : (n : ℕ) → 0 < n → n < 2 ^ 32 → number_of (decimal n) ≡ Some n
number_of-written n = number_of-text (decimal n) n refl

-- a decimal number holds digits alone
pub decimal_digits : (n : ℕ) → n < 2 ^ 32 → AllDigits 10 (decimal n)
decimal_digits n small = let numeral = decimal_is_IsNumeral n (omega arith) in numeral.0.1
