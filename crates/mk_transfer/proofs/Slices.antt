-- What the program's slices are.
use Rattle.std.proofs.Common.{◌≡◌, ℕ, ◌-◌, List, ◌++◌, ◌∙◌, ap, sym, length, take, drop, append_assoc, take-append-drop, length-drop}
use Rattle.std.proofs.Math.Seq.{take-length}

-- the slice from a place on
pub take-drop-to_end : (n : ℕ) (bytes : List ℕ) → take (length bytes - n) (drop n bytes) ≡ drop n bytes
take-drop-to_end n bytes = ap (λ k. take k (drop n bytes)) (sym (length-drop n bytes)) ∙ take-length (drop n bytes)

-- a front and then the rest, of which more went to the front
pub append-take-drop : (n : ℕ) (front rest all : List ℕ) → all ≡ front ++ rest
    → all ≡ (front ++ take n rest) ++ take (length rest - n) (drop n rest)
append-take-drop n front rest all e =
    e ∙ ap (λ l. front ++ l) (sym (take-append-drop n rest) ∙ ap (λ l. take n rest ++ l) (sym (take-drop-to_end n rest))) ∙ sym (append_assoc front _ _)
