use Rattle.std.proofs.Common.{◌≡◌, ◌++◌, map, drop}
use Rattle.mk_build.specs.BuildViews.{written_in, written_of}
use Rattle.mk_build.proofs.building.all_written.Given as goal

abbrev pub invariant-loop-part : goal.invariant-loop-part
invariant-loop-part l = map written_of l.list.items ++ drop l.part-index (map (written_in l.utf8_names) l.parts) ≡ map (written_in l.utf8_names) l.parts
