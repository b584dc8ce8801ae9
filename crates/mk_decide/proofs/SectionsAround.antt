-- The way to a section, by the sections on it and by what stands around it.
use Rattle.std.proofs.Common.{◌≡◌, ◌<◌, ℕ, true, Some, List, [], ◌∷◌, refl, length, arith}
use Rattle.mk_line.specs.Lines.{TextLine}
use Rattle.mk_tree.specs.Sections.{Placed, boundary_in}
use Rattle.mk_decide.specs.Around.{marks_any, hit_below}

pub hit_now : (ls : List TextLine) (level : ℕ) (ks : List ℕ) (p : Placed) → 0 < length ks → marks_any ls (boundary_in p.entity) ≡ true → hit_below ls level ks p ≡ Some level
hit_now ls level [] p h m = let none : 0 < 0 = h in absurd (omega arith)
hit_now ls level (k ∷ ks) p h m = rw m refl
