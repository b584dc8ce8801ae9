use Rattle.std.proofs.Common.{◌+◌, map, drop, arith}
use Rattle.std.specs.List.{flat_map}
use Rattle.mk_build.specs.BuildViews.{written_of}
use Rattle.mk_build.specs.Multiparts.{multipart_of, part_as}
use Rattle.mk_build.specs.inner.PieceViews.{coded_segment}
use Rattle.mk_build.proofs.Failing.{from_index, written_one}
use Rattle.mk_build.proofs.PieceTexts.{segment_put}
use Rattle.mk_build.proofs.pieces.push_parts.Goals as goal

pub loop-part-preserved : goal.loop-part-preserved
loop-part-preserved c =
    let eol = c.args.eol in
    let xs = c.args.parts.now in
    let i = c.loop-part.part-index in
    let x = c.part-item.result in
    written_one (part_as c.args.eol (multipart_of c.args.multipart.now)) (flat_map (coded_segment eol) c.loop-part.list.items) (flat_map (coded_segment eol) c.push_back.new.self.items) _
    (drop i (map written_of xs)) (drop (i + 1) (map written_of xs)) (written_of x) (from_index written_of i xs x (omega (arith, c.loop-part-test.true)) c.part-item.is)
    (segment_put eol c.loop-part.list.items c.push_back.new.self.items _ _ c.in_ok-push_back.ensures.items c.in_ok-part_between.ensures) c.loop-part.invariant
