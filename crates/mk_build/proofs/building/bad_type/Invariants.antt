use Rattle.std.proofs.Common.{◌≡◌, map, drop, not}
use Rattle.std.specs.List.{position}
use Rattle.mk_build.specs.BuildViews.{written_of}
use Rattle.mk_build.specs.Building.{is_media}
use Rattle.mk_build.proofs.Failing.{following}
use Rattle.mk_build.proofs.building.bad_type.Given as goal

abbrev pub invariant-loop-index : goal.invariant-loop-index
invariant-loop-index l = following l.index (position (λ a. not (is_media a.media)) (drop l.index (map written_of l.parts))) ≡ position (λ a. not (is_media a.media)) (map written_of l.parts)
