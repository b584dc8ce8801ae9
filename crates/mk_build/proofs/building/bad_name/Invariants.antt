use Rattle.std.proofs.Common.{◌≡◌, map, drop, not}
use Rattle.std.specs.List.{position}
use Rattle.mk_build.specs.BuildViews.{written_of}
use Rattle.mk_build.specs.Building.{is_name}
use Rattle.std.specs.Option.{option_map_or}
use Rattle.mk_build.proofs.Failing.{following}
use Rattle.std.specs.Prelude.{true}
use Rattle.mk_build.proofs.building.bad_name.Given as goal

abbrev pub invariant-loop-index : goal.invariant-loop-index
invariant-loop-index l = following l.index (position (λ a. not (option_map_or is_name a.name true)) (drop l.index (map written_of l.parts))) ≡ position (λ a. not (option_map_or is_name a.name true)) (map written_of l.parts)
