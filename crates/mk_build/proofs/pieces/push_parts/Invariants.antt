use Rattle.std.proofs.Common.{◌≡◌, ◌++◌, map, drop}
use Rattle.std.specs.List.{flat_map}
use Rattle.mk_build.specs.BuildViews.{written_of}
use Rattle.mk_build.specs.Multiparts.{multipart_of, part_as}
use Rattle.mk_build.specs.inner.PieceViews.{coded_segment}
use Rattle.mk_build.proofs.pieces.push_parts.Given as goal

abbrev pub invariant-loop-part : goal.invariant-loop-part
invariant-loop-part l =
    flat_map (coded_segment l.eol) l.list.items ++ flat_map (part_as l.eol (multipart_of l.multipart)) (drop l.part-index (map written_of l.parts))
    ≡ flat_map (coded_segment l.eol) l.fn.list.items ++ flat_map (part_as l.eol (multipart_of l.multipart)) (map written_of l.parts)
