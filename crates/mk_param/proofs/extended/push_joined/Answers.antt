use Rattle.mk_param.proofs.Joined.{read_more, read_none}
use Rattle.mk_param.proofs.extended.push_joined.Goals as goal

pub loop-segment-preserved : goal.loop-segment-preserved
loop-segment-preserved c =
    let read = rw c.if-not-branch.false at c.in_ok-push_segment.ensures in
    read_more c.args.segments.now c.loop-segment.segment-index _ _ _ _ c.loop-segment-test.true read c.loop-segment.invariant

pub returns-then-not-branch : goal.returns-then-not-branch
returns-then-not-branch c =
    let read = rw c.if-not-branch.true at c.in_ok-push_segment.ensures in
    read_none c.args.segments.now c.loop-segment.segment-index _ _ _ c.loop-segment-test.true read c.loop-segment.invariant
