use Rattle.std.proofs.Common.{◌+◌, map, drop, arith}
use Rattle.mk_build.specs.BuildViews.{written_of}
use Rattle.mk_build.specs.Multiparts.{multipart_of, part_as}
use Rattle.mk_build.proofs.Failing.{from_index, written_one}
use Rattle.mk_build.proofs.building.push_parts.Goals as goal

pub loop-part-preserved : goal.loop-part-preserved
loop-part-preserved c =
    let xs = c.args.parts.now in
    let i = c.loop-part.part-index in
    let x = c.part-item.result in
    written_one (part_as c.args.eol (multipart_of c.args.multipart.now)) c.loop-part.text.items c.push_part.new.text.items _ (drop i (map written_of xs)) (drop (i + 1) (map written_of xs)) (written_of x)
    (from_index written_of i xs x (omega (arith, c.loop-part-test.true)) c.part-item.is) c.in_ok-push_part.ensures c.loop-part.invariant
