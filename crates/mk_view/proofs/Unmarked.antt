-- Texts without a mark.
use Rattle.std.proofs.Common.{◌≡◌, ◌==◌, ℕ, true, false, List, [], ◌∷◌, refl, ap, inl, inr}
use Rattle.std.proofs.lemmas.Bool.{cases_Bool}
use Rattle.mk_line.specs.Parting.{before, has_byte}

-- all of such a text stands before the mark
pub before_whole : (mark : ℕ) (text : List ℕ) → has_byte mark text ≡ false → before mark text ≡ text
before_whole mark [] h = refl
before_whole mark (byte ∷ bytes) h = elim (cases_Bool (byte == mark)) [
  | inl y ↦ let wrong : true ≡ false = rw y at h in absurd cc
  | inr n ↦ rw n (ap (λ rest. byte ∷ rest) (before_whole mark bytes (rw n at h)))
]
