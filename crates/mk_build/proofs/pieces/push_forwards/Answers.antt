use Rattle.std.proofs.Common.{◌+◌, map, drop, arith}
use Rattle.std.specs.List.{flat_map}
use Rattle.mk_build.specs.ForwardViews.{forwarded_of}
use Rattle.mk_build.specs.Forwards.{forwarded_part}
use Rattle.mk_build.specs.inner.PieceViews.{coded_segment}
use Rattle.mk_build.proofs.Failing.{from_index, written_one}
use Rattle.mk_build.proofs.PieceTexts.{segment_put}
use Rattle.mk_build.proofs.pieces.push_forwards.Goals as goal

pub loop-forward-preserved : goal.loop-forward-preserved
loop-forward-preserved c =
    let eol = c.args.eol in
    let xs = c.args.messages.now in
    let i = c.loop-forward.forward-index in
    let x = c.forward-item.result in
    written_one (forwarded_part c.args.eol c.args.boundary.now) (flat_map (coded_segment eol) c.loop-forward.list.items) (flat_map (coded_segment eol) c.push_back.new.self.items) _
    (drop i (map forwarded_of xs)) (drop (i + 1) (map forwarded_of xs)) (forwarded_of x) (from_index forwarded_of i xs x (omega (arith, c.loop-forward-test.true)) c.forward-item.is)
    (segment_put eol c.loop-forward.list.items c.push_back.new.self.items _ _ c.in_ok-push_back.ensures.items c.in_ok-forwarded.ensures) c.loop-forward.invariant
