-- Two bytes side by side, found by a search.
use Rattle.std.proofs.Common.{◌≡◌, ◌==◌, ◌&&◌, ◌<◌, ◌≤◌, ◌+◌, ℕ, suc, zero, true, false, List, [], ◌∷◌, ◌++◌, refl, ap, sym, ◌∙◌, length, take, drop, slice_index, arith, inl, inr, None, Some, add-one, add-zero}
use Rattle.std.specs.Prelude.{is_some, Option}
use Rattle.std.proofs.lemmas.Bool.{cases_Bool, and_parts, eqb-true, eq-eqb}
use Rattle.std.proofs.lemmas.List.{take_all}
use Rattle.memchr.specs.Find.{FindsNeedle, OccursAt}
use Rattle.mk_code.specs.EncodedWords.{has_pair}

-- the two bytes stand at a place
pub record IsPairAt (a b : ℕ) (text : List ℕ) (k : ℕ) : Type 0 where
  pub fits : k + 2 ≤ length text
  pub one : slice_index text k ≡ a
  pub two : slice_index text (suc k) ≡ b

pub to_pair : (a b : ℕ) (text : List ℕ) (k : ℕ) → OccursAt text (a ∷ b ∷ []) k → IsPairAt a b text k
to_pair a b text k h = record {
  fits = h.fits;
  one = ap (slice_index text) (sym (add-zero k)) ∙ h.reads 0 (omega arith);
  two = ap (slice_index text) (sym (add-one k)) ∙ h.reads 1 (omega arith);
}

pair_reads : (a b : ℕ) (text : List ℕ) (k : ℕ) → IsPairAt a b text k → (j : ℕ) → j < 2 → slice_index text (k + j) ≡ slice_index (a ∷ b ∷ []) j
pair_reads a b text k h zero l = ap (slice_index text) (add-zero k) ∙ h.one
pair_reads a b text k h (suc zero) l = ap (slice_index text) (add-one k) ∙ h.two
pair_reads a b text k h (suc (suc j)) l = absurd (omega (arith, l))

pub from_pair : (a b : ℕ) (text : List ℕ) (k : ℕ) → IsPairAt a b text k → OccursAt text (a ∷ b ∷ []) k
from_pair a b text k h = record { fits = h.fits; reads = pair_reads a b text k h }

pair_here : (a b x y : ℕ) (ys : List ℕ) → (x == a && y == b) ≡ true → IsPairAt a b (x ∷ y ∷ ys) 0
pair_here a b x y ys h =
    let both = and_parts (x == a) (y == b) h in
    record { fits = omega arith; one = eqb-true x a both.0; two = eqb-true y b both.1 }

pair_later : (a b x : ℕ) (xs : List ℕ) (k : ℕ) → IsPairAt a b xs k → IsPairAt a b (x ∷ xs) (suc k)
pair_later a b x xs k h = record { fits = omega (arith, h.fits); one = h.one; two = h.two }

no_pair_here : (a b x y : ℕ) (ys : List ℕ) → ¬ IsPairAt a b (x ∷ y ∷ ys) 0 → (x == a && y == b) ≡ false
no_pair_here a b x y ys h = elim (cases_Bool (x == a && y == b)) [ inl t ↦ absurd (h (pair_here a b x y ys t)) | inr f ↦ f ]

-- no place up to n has them
pub lacks_pair : (a b n : ℕ) (text : List ℕ) → ((k : ℕ) → k < n → ¬ IsPairAt a b text k) → has_pair a b (take n text) ≡ false
lacks_pair a b zero text h = refl
lacks_pair a b (suc n) [] h = refl
lacks_pair a b (suc zero) (x ∷ xs) h = refl
lacks_pair a b (suc (suc n)) (x ∷ []) h = refl
lacks_pair a b (suc (suc n)) (x ∷ y ∷ ys) h =
    rw (no_pair_here a b x y ys (h 0 (omega arith))) (lacks_pair a b (suc n) (y ∷ ys) (λ k l p. h (suc k) (omega (arith, l)) (pair_later a b x (y ∷ ys) k p)))

-- some place has them
has_at : (a b k : ℕ) (text : List ℕ) → IsPairAt a b text k → has_pair a b text ≡ true
has_at a b k [] h = absurd (omega (arith, h.fits))
has_at a b k (x ∷ []) h = absurd (omega (arith, h.fits))
has_at a b zero (x ∷ y ∷ ys) h = rw (eq-eqb x a h.one, eq-eqb y b h.two) refl
has_at a b (suc k) (x ∷ y ∷ ys) h =
    elim (cases_Bool (x == a && y == b)) [
      | inl t ↦ rw t refl
      | inr f ↦ rw f (has_at a b k (y ∷ ys) (record { fits = omega (arith, h.fits); one = h.one; two = h.two }))
    ]

pub pair_parted : (a b n : ℕ) (text : List ℕ) → IsPairAt a b text n → text ≡ take n text ++ a ∷ b ∷ drop (suc (suc n)) text
pair_parted a b n [] h = absurd (omega (arith, h.fits))
pair_parted a b zero (x ∷ []) h = absurd (omega (arith, h.fits))
pair_parted a b zero (x ∷ y ∷ ys) h = ap (λ z. z ∷ y ∷ ys) h.one ∙ ap (λ z. a ∷ z ∷ ys) h.two
pair_parted a b (suc n) (x ∷ xs) h = ap (λ ys. x ∷ ys) (pair_parted a b n xs (record { fits = omega (arith, h.fits); one = h.one; two = h.two }))

-- what a search for them says
pub pair_unfound : (a b : ℕ) (text : List ℕ) → FindsNeedle text (a ∷ b ∷ []) 0 None → has_pair a b text ≡ false
pair_unfound a b text h =
    ap (has_pair a b) (sym (take_all (length text) text (omega arith)))
    ∙ lacks_pair a b (length text) text (λ k l p. h k (omega arith) (omega (arith, l)) (from_pair a b text k p))

pub pair_sought : (a b : ℕ) (text : List ℕ) (found : Option ℕ) → FindsNeedle text (a ∷ b ∷ []) 0 found → is_some found ≡ has_pair a b text
pair_sought a b text None h = sym (pair_unfound a b text h)
pair_sought a b text (Some n) h = sym (has_at a b n text (to_pair a b text n h.1))
