use Rattle.std.proofs.Common.{◌≡◌, ◌++◌, List, ℕ, map, drop}
use Rattle.std.specs.List.{flat_map}
use Rattle.sha2.specs.Hashers.{Holds256}
use Rattle.mk_build.specs.BuildViews.{attached_of}
use Rattle.mk_pack.specs.OwnBoundary.{measured_part}
use Rattle.mk_pack.proofs.boundaries.add_parts.Given as goal

abbrev pub invariant-loop-part : goal.invariant-loop-part
invariant-loop-part l = (before : List ℕ) → Holds256 l.fn.hasher before → (now : List ℕ) × Holds256 l.hasher now
    × (now ++ flat_map measured_part (drop l.part-index (map attached_of l.parts)) ≡ before ++ flat_map measured_part (map attached_of l.parts))
