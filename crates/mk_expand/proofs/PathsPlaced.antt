-- Paths at their places among others.
use Rattle.std.proofs.Common.{ℕ, List, Option, None, Some}
use Rattle.mk_expand.specs.Paths.{placed_among}

-- others, and a path that still has to find its place among them
abbrev pub with_waiting : Option (List ℕ) → List (List ℕ) → List (List ℕ)
with_waiting None others = others
with_waiting (Some path) others = placed_among path others
