use Rattle.std.proofs.Common.{◌+◌, ◌++◌, refl, map, drop, arith}
use Rattle.mk_build.specs.ForwardViews.{forwarded_of}
use Rattle.mk_pack.specs.FreeBoundary.{measured_message}
use Rattle.mk_build.proofs.Failing.{at_end, from_index, written_one}
use Rattle.mk_pack.proofs.HeldDigests.{held_all}
use Rattle.mk_pack.proofs.boundaries.add_messages.Goals as goal

pub loop-forward-init : goal.loop-forward-init
loop-forward-init c before h = (before, h, refl)

pub loop-forward-preserved : goal.loop-forward-preserved
loop-forward-preserved c before h =
    let xs = c.args.messages.now in
    let i = c.loop-forward.forward-index in
    let x = c.forward-item.result in
    let was = c.loop-forward.invariant before h in (
      was.0 ++ measured_message (forwarded_of x),
      c.add_message.ensures was.0 was.1,
      written_one measured_message was.0 (was.0 ++ measured_message (forwarded_of x)) _ (drop i (map forwarded_of xs)) (drop (i + 1) (map forwarded_of xs)) (forwarded_of x)
          (from_index forwarded_of i xs x (omega (arith, c.loop-forward-test.true)) c.forward-item.is) refl was.2,
    )

pub returns : goal.returns
returns c before h =
    let xs = c.args.messages.now in
    let i = c.loop-forward.forward-index in
    let was = c.loop-forward.invariant before h in
    held_all c.loop-forward.hasher measured_message (drop i (map forwarded_of xs)) was.0 _ (at_end forwarded_of i xs (omega (arith, c.loop-forward-test.false))) was.2 was.1
