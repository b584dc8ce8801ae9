-- Bytes written one after another.
use Rattle.std.proofs.Common.{◌≡◌, ◌++◌, if◌then◌else◌, ℕ, List, Result, Ok, Err, OnOk, is_ok, ap, ◌∙◌, append_assoc}

pub on_ok : {A E : Type 0} (r : Result A E) (P Q : Type 0) → OnOk r P → (P → Q) → OnOk r Q
on_ok (Ok x) P Q h f = f h
on_ok (Err e) P Q h f = tt

-- what is written where there is memory
pub written : {A E : Type 0} (r : Result A E) (old other new : List ℕ) → new ≡ (if is_ok r then old ++ other else old) → OnOk r (new ≡ old ++ other)
written (Ok x) old other new h = h
written (Err e) old other new h = tt

-- a piece, and the rest after it
pub joined : (t a rest u w : List ℕ) → u ≡ t ++ a → w ≡ u ++ rest → w ≡ t ++ (a ++ rest)
joined t a rest u w p q = q ∙ (ap (λ x. x ++ rest) p ∙ append_assoc t a rest)
