-- Texts that stand after their lengths are told apart.
use Rattle.std.proofs.Common.{◌≡◌, ◌<◌, ◌^◌, ◌++◌, ◌∙◌, ℕ, zero, suc, true, false, List, [], ◌∷◌, append_assoc, arith, ap, decimal, length, length-append, refl, subst, sym}
use Rattle.std.specs.Char.{is_ascii_digit}
use Rattle.std.specs.List.{AllByRecursion, flat_map}
use Rattle.mk_splice.specs.Grammar.{AreDigits, number_of}
use Rattle.mk_splice.proofs.Decimals.{decimal_value, is_decimal}
use Rattle.mk_pack.specs.OwnBoundary.{measured}

abbrev head : List ℕ → ℕ
head [] = 0
head (x ∷ xs) = x

abbrev tail : List ℕ → List ℕ
tail [] = []
tail (x ∷ xs) = xs

abbrev AllDigits : List ℕ → Type 0
AllDigits [] = Unit {0}
AllDigits (d ∷ ds) = (is_ascii_digit d ≡ true) × AllDigits ds

all_digits : (n : ℕ) (ds : List ℕ) → AreDigits n ds → AllDigits ds
all_digits n [] h = tt
all_digits zero (d ∷ ds) h = absurd h
all_digits (suc n) (d ∷ ds) h = (h.0, all_digits n ds h.1)

colon_none : (d : ℕ) → 58 ≡ d → is_ascii_digit d ≡ true → ⊥
colon_none d e h = let none : is_ascii_digit d ≡ false = ap is_ascii_digit (sym e) in cc

-- digits up to a colon
digits_apart : (ds es xs ys : List ℕ) → AllDigits ds → AllDigits es → ds ++ (58 ∷ xs) ≡ es ++ (58 ∷ ys) → (ds ≡ es) × (xs ≡ ys)
digits_apart [] [] xs ys h k e = (refl, ap tail e)
digits_apart [] (d ∷ es) xs ys h k e = absurd (colon_none d (ap head e) k.0)
digits_apart (d ∷ ds) [] xs ys h k e = absurd (colon_none d (sym (ap head e)) h.0)
digits_apart (d ∷ ds) (c ∷ es) xs ys h k e =
    let rest = digits_apart ds es xs ys h.1 k.1 (ap tail e) in
    (λ i. ap head e i ∷ rest.0 i, rest.1)

-- texts of one length
same_apart : (xs ys more others : List ℕ) → length xs ≡ length ys → xs ++ more ≡ ys ++ others → (xs ≡ ys) × (more ≡ others)
same_apart [] [] more others n e = (refl, e)
same_apart [] (y ∷ ys) more others n e = absurd (omega (arith, n))
same_apart (x ∷ xs) [] more others n e = absurd (omega (arith, n))
same_apart (x ∷ xs) (y ∷ ys) more others n e =
    let rest = same_apart xs ys more others (omega (arith, n)) (ap tail e) in
    (λ i. ap head e i ∷ rest.0 i, rest.1)

digits_of : (n : ℕ) → n < 2 ^ 64 → AllDigits (decimal n)
digits_of n h =
    let p = is_decimal n h in
    subst AllDigits (sym p.same) (p.digit, all_digits (length p.rest) p.rest p.digits)

pub measured_apart : (one other rest more : List ℕ) → length one < 2 ^ 64 → length other < 2 ^ 64 → measured one ++ rest ≡ measured other ++ more → (one ≡ other) × (rest ≡ more)
measured_apart one other rest more h k e =
    let written = sym (append_assoc (decimal (length one)) (58 ∷ one) rest) ∙ (e ∙ append_assoc (decimal (length other)) (58 ∷ other) more) in
    let parts = digits_apart (decimal (length one)) (decimal (length other)) (one ++ rest) (other ++ more) (digits_of (length one) h) (digits_of (length other) k) written in
    let lengths = sym (decimal_value (length one) h) ∙ (ap number_of parts.0 ∙ decimal_value (length other) k) in
    same_apart one other rest more lengths parts.1

some_written : (x more : List ℕ) → length x < 2 ^ 64 → [] ≡ measured x ++ more → ⊥
some_written x more h e =
    let p = is_decimal (length x) h in
    omega (arith, ap length e, length-append (measured x) more, length-append (decimal (length x)) (58 ∷ x), ap length p.same)

pub lists_apart : (xs ys : List (List ℕ)) → AllByRecursion (λ x. length x < 2 ^ 64) xs → AllByRecursion (λ y. length y < 2 ^ 64) ys → flat_map measured xs ≡ flat_map measured ys → xs ≡ ys
lists_apart [] [] h k e = refl
lists_apart [] (y ∷ ys) h k e = absurd (some_written y (flat_map measured ys) k.0 e)
lists_apart (x ∷ xs) [] h k e = absurd (some_written x (flat_map measured xs) h.0 (sym e))
lists_apart (x ∷ xs) (y ∷ ys) h k e =
    let parts = measured_apart x y (flat_map measured xs) (flat_map measured ys) h.0 k.0 e in
    λ i. parts.0 i ∷ lists_apart xs ys h.1 k.1 parts.1 i
