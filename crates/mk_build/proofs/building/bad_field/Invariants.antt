use Rattle.std.proofs.Common.{◌≡◌, map, drop, not}
use Rattle.std.specs.List.{position}
use Rattle.mk_build.specs.Building.{is_free_field}
use Rattle.mk_build.proofs.Failing.{following}
use Rattle.mk_build.proofs.building.bad_field.Given as goal

abbrev pub invariant-loop-index : goal.invariant-loop-index
invariant-loop-index l = following l.index (position (λ f. not (is_free_field f)) (drop l.index (map (λ f. f.items) l.fields))) ≡ position (λ f. not (is_free_field f)) (map (λ f. f.items) l.fields)
