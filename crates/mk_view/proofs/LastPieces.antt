-- What follows the last byte of a kind, found from the front.
use Rattle.std.proofs.Common.{◌≡◌, ◌||◌, ◌<◌, ◌+◌, ◌-◌, if◌then◌else◌, ℕ, suc, Bool, true, false, not, cond, List, [], ◌∷◌, ◌++◌, length, take, drop, get_or, reverse, eqb, ◌≤◌, refl, ap, sym, ◌∙◌, arith, inl, inr, eq-eqb, ne_eqb}
use Rattle.std.proofs.lemmas.Bool.{cases_Bool}
use Rattle.std.proofs.lemmas.List.{take_all}
use Rattle.std.proofs.lemmas.List.Folds.{prefix_len-append}
use Rattle.std.specs.List.{after_last, list_any, prefix_len, suffix_len}
use mathlib.Core.List.{reverse-cons}
use lib.ListN.{length-reverse}

module _ (p : ℕ → Bool) where
  -- another byte
  abbrev other : ℕ → Bool
  other x = not (p x)

  end_step : (x : ℕ) (xs : List ℕ) → suffix_len other (x ∷ xs) ≡ cond (eqb (suffix_len other xs) (length xs)) (length xs + cond (other x) 1 0) (suffix_len other xs)
  end_step x xs =
      ap (prefix_len other) (reverse-cons x xs)
      ∙ (prefix_len-append other (reverse xs) (x ∷ []) ∙ ap (λ n. cond (eqb (suffix_len other xs) n) (n + cond (other x) 1 0) (suffix_len other xs)) (length-reverse xs))

  end_none : (xs : List ℕ) → list_any p xs ≡ false → suffix_len other xs ≡ length xs
  end_none [] h = refl
  end_none (x ∷ xs) h = elim (cases_Bool (p x)) [
    | inl y ↦ absurd (let no : true ≡ false = rw y at h in cc)
    | inr n ↦
        let less : list_any p xs ≡ false = rw n at h in
        let same = end_none xs less in
        end_step x xs ∙ rw (eq-eqb (suffix_len other xs) (length xs) same, n) (omega arith)
  ]

  end_some : (xs : List ℕ) → list_any p xs ≡ true → suffix_len other xs < length xs
  end_some [] h = absurd (cc)
  end_some (x ∷ xs) h = elim (cases_Bool (list_any p xs)) [
    | inl y ↦
        let less = end_some xs y in
        let step : suffix_len other (x ∷ xs) ≡ suffix_len other xs = end_step x xs ∙ rw (ne_eqb (suffix_len other xs) (length xs) (omega (arith, less))) refl in
        omega (arith, step, less)
    | inr n ↦ elim (cases_Bool (p x)) [
      | inl y ↦
          let step : suffix_len other (x ∷ xs) ≡ length xs + 0 = end_step x xs ∙ rw (eq-eqb (suffix_len other xs) (length xs) (end_none xs n), y) refl in
          omega (arith, step)
      | inr m ↦ absurd (let no : false ≡ true = rw (m, n) at h in cc)
    ]
  ]

  -- after the last, by the first byte
  last_more : (x : ℕ) (xs : List ℕ) → list_any p xs ≡ true → after_last p (x ∷ xs) ≡ after_last p xs
  last_more x xs h =
      let less = end_some xs h in
      let step : suffix_len other (x ∷ xs) ≡ suffix_len other xs = end_step x xs ∙ rw (ne_eqb (suffix_len other xs) (length xs) (omega (arith, less))) refl in
      let n : suc (length xs) - suffix_len other (x ∷ xs) ≡ suc (length xs - suffix_len other xs) = omega (arith, step, less) in
      ap (λ k. drop k (x ∷ xs)) n

  last_first : (x : ℕ) (xs : List ℕ) → list_any p xs ≡ false → p x ≡ true → after_last p (x ∷ xs) ≡ xs
  last_first x xs h y =
      let step : suffix_len other (x ∷ xs) ≡ length xs + 0 = end_step x xs ∙ rw (eq-eqb (suffix_len other xs) (length xs) (end_none xs h), y) refl in
      let n : suc (length xs) - suffix_len other (x ∷ xs) ≡ 1 = omega (arith, step) in
      ap (λ k. drop k (x ∷ xs)) n

  pub last_none : (xs : List ℕ) → list_any p xs ≡ false → after_last p xs ≡ xs
  last_none xs h = ap (λ k. drop k xs) (let same = end_none xs h in let n : length xs - suffix_len other xs ≡ 0 = omega (arith, same) in n)

-- what follows the last so far, where these bytes are left
abbrev pub last_by : (ℕ → Bool) → List ℕ → List ℕ → List ℕ
last_by p kept rest = if list_any p rest then after_last p rest else kept

last_at : (p : ℕ → Bool) (kept : List ℕ) (x : ℕ) (xs : List ℕ) → p x ≡ true → last_by p xs xs ≡ last_by p kept (x ∷ xs)
last_at p kept x xs y = elim (cases_Bool (list_any p xs)) [
  | inl h ↦ rw (h, y) (sym (last_more p x xs h))
  | inr h ↦ rw (h, y) (sym (last_first p x xs h y))
]

last_past : (p : ℕ → Bool) (kept : List ℕ) (x : ℕ) (xs : List ℕ) → p x ≡ false → last_by p kept xs ≡ last_by p kept (x ∷ xs)
last_past p kept x xs n = elim (cases_Bool (list_any p xs)) [
  | inl h ↦ rw (h, n) (sym (last_more p x xs h))
  | inr h ↦ rw (h, n) refl
]

pub last_all : (p : ℕ → Bool) (xs : List ℕ) → last_by p xs xs ≡ after_last p xs
last_all p xs = elim (cases_Bool (list_any p xs)) [
  | inl h ↦ rw h refl
  | inr h ↦ rw h (sym (last_none p xs h))
]

-- the bytes after the first
others : (x : ℕ) (xs : List ℕ) → take (length (x ∷ xs) - 1) (drop 1 (x ∷ xs)) ≡ xs
others x xs = ap (λ n. take n xs) (let n : length (x ∷ xs) - 1 ≡ length xs = omega arith in n) ∙ take_all (length xs) xs (omega arith)

pub at_divider : (p : ℕ → Bool) (kept rest : List ℕ) → 1 ≤ length rest → p (get_or rest 0 0) ≡ true → last_by p (take (length rest - 1) (drop 1 rest)) (take (length rest - 1) (drop 1 rest)) ≡ last_by p kept rest
at_divider p kept [] h y = absurd (omega (arith, h))
at_divider p kept (x ∷ xs) h y = ap (λ ys. last_by p ys ys) (others x xs) ∙ last_at p kept x xs y

pub past_byte : (p : ℕ → Bool) (kept rest : List ℕ) → 1 ≤ length rest → p (get_or rest 0 0) ≡ false → last_by p kept (take (length rest - 1) (drop 1 rest)) ≡ last_by p kept rest
past_byte p kept [] h n = absurd (omega (arith, h))
past_byte p kept (x ∷ xs) h n = ap (λ ys. last_by p kept ys) (others x xs) ∙ last_past p kept x xs n

-- an item at the front
pub first_is : (rest : List ℕ) (x : ℕ) → 1 ≤ length rest → x ≡ get_or rest 0 x → get_or rest 0 0 ≡ x
first_is [] x h e = absurd (omega (arith, h))
first_is (y ∷ ys) x h e = sym e
