use Rattle.std.proofs.Common.{◌≡◌, ◌++◌, drop, map}
use Rattle.mk_build.specs.BuildViews.{attached_of}
use Rattle.mk_pack.specs.Packing.{turned_part}
use Rattle.mk_pack.proofs.packing.turned_parts.Given as goal

abbrev pub invariant-loop-part : goal.invariant-loop-part
invariant-loop-part l = map attached_of l.all.items ++ map (turned_part l.eol) (map attached_of (drop l.part-index l.parts)) ≡ map (turned_part l.eol) (map attached_of l.parts)
