-- Counting from 1 along a list.
use Rattle.std.proofs.Common.{◌≡◌, ◌≢◌, ◌-◌, ℕ, zero, suc, Bool, true, false, None, Some, List, [], ◌∷◌, refl, ap, filter, arith}
use Rattle.mk_head.specs.Fields.{counted}

pub counted_none : {X : Type 0} (xs : List X) → counted 0 xs ≡ None
counted_none [] = refl
counted_none (x ∷ xs) = refl

two_less : (n : ℕ) → suc (suc n) - 1 ≡ suc n
two_less n = omega arith

-- the first is the one that is counted, or one less is counted after it
pub counted_first : {X : Type 0} (x : X) (xs : List X) (left : ℕ) → left ≡ 1 → counted left (x ∷ xs) ≡ Some x
counted_first x xs left e = ap (λ k. counted k (x ∷ xs)) e

pub counted_after : {X : Type 0} (x : X) (xs : List X) (left : ℕ) → left ≢ 1 → counted (left - 1) xs ≡ counted left (x ∷ xs)
counted_after x xs zero h = counted_none xs
counted_after x xs (suc zero) h = absurd (h refl)
counted_after x xs (suc (suc n)) h = ap (λ k. counted k xs) (two_less n)

-- the same among those that pass a test
pub counted_passed : {X : Type 0} (p : X → Bool) (x : X) (xs : List X) (left : ℕ) → p x ≡ true → left ≡ 1 → counted left (filter p (x ∷ xs)) ≡ Some x
counted_passed p x xs left h e = rw h (counted_first x (filter p xs) left e)

pub counted_on : {X : Type 0} (p : X → Bool) (x : X) (xs : List X) (left : ℕ) → p x ≡ true → left ≢ 1 → counted (left - 1) (filter p xs) ≡ counted left (filter p (x ∷ xs))
counted_on p x xs left h e = rw h (counted_after x (filter p xs) left e)

pub counted_over : {X : Type 0} (p : X → Bool) (x : X) (xs : List X) (left : ℕ) → p x ≡ false → counted left (filter p xs) ≡ counted left (filter p (x ∷ xs))
counted_over p x xs left h = rw h refl
