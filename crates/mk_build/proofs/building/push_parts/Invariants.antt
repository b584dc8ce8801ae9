use Rattle.std.proofs.Common.{◌≡◌, ◌++◌, map, drop}
use Rattle.std.specs.List.{flat_map}
use Rattle.mk_build.specs.BuildViews.{written_of}
use Rattle.mk_build.specs.Multiparts.{multipart_of, part_as}
use Rattle.mk_build.proofs.building.push_parts.Given as goal

abbrev pub invariant-loop-part : goal.invariant-loop-part
invariant-loop-part l = l.text.items ++ flat_map (part_as l.eol (multipart_of l.multipart)) (drop l.part-index (map written_of l.parts)) ≡ l.fn.text.items ++ flat_map (part_as l.eol (multipart_of l.multipart)) (map written_of l.parts)
