-- Runs whose last block goes back over bytes that were tested.
use Rattle.std.proofs.Common.{◌≡◌, ◌+◌, ◌≤◌, ℕ, suc, zero, Bool, List, [], ◌∷◌, length, take, drop, length-drop, ap, arith, inl, inr}
use Rattle.std.proofs.lemmas.Bool.{cases_Bool}
use Rattle.std.proofs.lemmas.List.{take_all}
use Rattle.std.specs.List.{prefix_len}

-- a run goes on after any bytes of it
run_after : (p : ℕ → Bool) (n : ℕ) (xs : List ℕ) → n ≤ prefix_len p xs → prefix_len p xs ≡ n + prefix_len p (drop n xs)
run_after p zero xs few = omega arith
run_after p (suc n) [] few = absurd (omega (arith, few))
run_after p (suc n) (x ∷ xs) few =
    elim (cases_Bool (p x)) [
      | inl t ↦
          let less : suc n ≤ 1 + prefix_len p xs = (rw t at few) in
          let rest = run_after p n xs (omega arith) in
          rw t (omega (arith, rest))
      | inr f ↦ let none : suc n ≤ 0 = (rw f at few) in absurd (omega (arith, none))
    ]

-- the end of a loop over blocks: the last block begins among bytes that passed the test
pub last_block : (p : ℕ → Bool) (text : List ℕ) (size last run : ℕ) → prefix_len p text ≡ size + prefix_len p (drop size text) → last ≤ size → last + 16 ≡ length text → run ≡ prefix_len p (take 16 (drop last text)) → last + run ≡ prefix_len p text
last_block p text size last run so_far before whole e =
    let left = length-drop last text in
    let all : prefix_len p (take 16 (drop last text)) ≡ prefix_len p (drop last text) = ap (prefix_len p) (take_all 16 (drop last text) (omega (arith, left, whole))) in
    let there = run_after p last text (omega (arith, so_far, before)) in
    omega (arith, there, all, e)
