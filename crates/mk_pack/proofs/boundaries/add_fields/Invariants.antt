use Rattle.std.proofs.Common.{◌≡◌, ◌++◌, List, ℕ, map, drop}
use Rattle.std.specs.List.{flat_map}
use Rattle.sha2.specs.Hashers.{Holds256}
use Rattle.mk_pack.specs.OwnBoundary.{measured}
use Rattle.mk_pack.proofs.boundaries.add_fields.Given as goal

abbrev pub invariant-loop-field : goal.invariant-loop-field
invariant-loop-field l = (before : List ℕ) → Holds256 l.fn.hasher before → (now : List ℕ) × Holds256 l.hasher now
    × (now ++ flat_map measured (drop l.field-index (map (λ f. f.items) l.fields)) ≡ before ++ flat_map measured (map (λ f. f.items) l.fields))
