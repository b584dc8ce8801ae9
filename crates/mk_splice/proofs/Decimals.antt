-- Numbers as they are printed: the digits are those of a number, and stand for it.
use Rattle.std.proofs.Common.{◌≡◌, ◌+◌, ◌-◌, ◌*◌, ◌/◌, ◌%◌, ◌^◌, ◌≤◌, ◌<◌, ◌++◌, nat_le, ℕ, zero, suc, true, inl, inr, List, [], ◌∷◌, refl, ap, sym, ◌∙◌, subst, length, arith, decimal, le-leb}
use Rattle.std.proofs.lemmas.Bool.{and_from}
use Rattle.std.proofs.lemmas.Bool.Decides.{eqb_tells}
use Rattle.std.proofs.lemmas.Fmt.{decimal_by_steps, length-decimal-le}
use Rattle.std.specs.Char.{is_ascii_digit}
use Rattle.mk_splice.specs.Grammar.{AreDigits, more_digits, IsNumber, value_from, number_of}

-- digits after a first one, and what they stand for
pub record IsDecimal (n : ℕ) (ds : List ℕ) : Type 0 where
  pub first : ℕ
  pub rest : List ℕ
  pub same : ds ≡ first ∷ rest
  pub digit : is_ascii_digit first ≡ true
  pub digits : AreDigits (length rest) rest
  pub nought : first ≡ 48 → n ≡ 0
  pub alone : first ≡ 48 → rest ≡ []
  pub value : number_of ds ≡ n

digit_there : (d : ℕ) → d < 10 → is_ascii_digit (48 + d) ≡ true
digit_there d h = and_from (nat_le 48 (48 + d)) (nat_le (48 + d) 57) (le-leb 48 (48 + d) (omega arith)) (le-leb (48 + d) 57 (omega arith))

-- fewer digits than allowed
pub digits_within : (n m : ℕ) (ds : List ℕ) → AreDigits n ds → length ds ≤ m → AreDigits m ds
digits_within n m [] g h = tt
digits_within zero m (c ∷ cs) g h = absurd g
digits_within (suc n) zero (c ∷ cs) g h = absurd (omega (arith, h))
digits_within (suc n) (suc m) (c ∷ cs) g h = (g.0, digits_within n m cs g.1 (omega (arith, h)))

digits_append : (ds : List ℕ) (c : ℕ) → AreDigits (length ds) ds → is_ascii_digit c ≡ true → AreDigits (suc (length ds)) (ds ++ c ∷ [])
digits_append [] c g h = (h, tt)
digits_append (d ∷ ds) c g h = (g.0, digits_append ds c g.1 h)

pub value_append : (v : ℕ) (ds : List ℕ) (c : ℕ) → value_from v (ds ++ c ∷ []) ≡ 10 * value_from v ds + (c - 48)
value_append v [] c = refl
value_append v (d ∷ ds) c = value_append (10 * v + (d - 48)) ds c

one_digit : (n : ℕ) → n < 10 → IsDecimal n ((48 + n) ∷ [])
one_digit n h = record {
  first = 48 + n;
  rest = [];
  same = refl;
  digit = digit_there n h;
  digits = tt;
  nought = λ e. omega (arith, e);
  alone = λ e. refl;
  value = omega arith;
}

more_digit : (n : ℕ) (ds : List ℕ) → 10 ≤ n → IsDecimal (n / 10) ds → IsDecimal n (ds ++ ((48 + n % 10) ∷ []))
more_digit n ds h p = record {
  first = p.first;
  rest = p.rest ++ (48 + n % 10) ∷ [];
  same = ap (λ k. k ++ (48 + n % 10) ∷ []) p.same;
  digit = p.digit;
  digits = digits_within (suc (length p.rest)) (length (p.rest ++ (48 + n % 10) ∷ [])) (p.rest ++ (48 + n % 10) ∷ []) (digits_append p.rest (48 + n % 10) p.digits (digit_there (n % 10) (omega arith))) (omega arith);
  nought = λ e. absurd (omega (arith, h, p.nought e));
  alone = λ e. absurd (omega (arith, h, p.nought e));
  value = value_append 0 ds (48 + n % 10) ∙ omega (arith, p.value);
}

pub is_decimal : (n : ℕ) → n < 2 ^ 64 → IsDecimal n (decimal n)
is_decimal n h = decimal_by_steps IsDecimal one_digit more_digit n h

few_digits : (first : ℕ) (rest : List ℕ) → AreDigits (length rest) rest → length rest ≤ 19 → (first ≡ 48 → rest ≡ []) → AreDigits (more_digits first) rest
few_digits first rest g h alone =
    elim (eqb_tells first 48) [
      | inl e ↦ subst (λ k. AreDigits (more_digits first) k) (sym (alone e.1)) tt
      | inr e ↦ (let more : more_digits first ≡ 19 = rw e.0 refl in subst (λ k. AreDigits k rest) (sym more) (digits_within (length rest) 19 rest g h))
    ]

-- a printed number is one, and stands for what was printed
pub decimal_number : (n : ℕ) → n < 2 ^ 64 → IsNumber (decimal n)
decimal_number n h =
    let p = is_decimal n h in
    let size : length p.rest ≤ 19 = omega (arith, length-decimal-le 20 n (omega arith) (omega (arith, h)) h, ap length p.same) in
    subst IsNumber (sym p.same) (p.digit, few_digits p.first p.rest p.digits size p.alone)

pub decimal_value : (n : ℕ) → n < 2 ^ 64 → number_of (decimal n) ≡ n
decimal_value n h = (is_decimal n h).value
