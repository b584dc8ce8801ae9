use Rattle.std.proofs.Common.{◌+◌, ◌++◌, refl, map, drop, arith}
use Rattle.mk_build.specs.BuildViews.{attached_of}
use Rattle.mk_pack.specs.OwnBoundary.{measured_part}
use Rattle.mk_build.proofs.Failing.{at_end, from_index, written_one}
use Rattle.mk_pack.proofs.HeldDigests.{held_all}
use Rattle.mk_pack.proofs.boundaries.add_parts.Goals as goal

pub loop-part-init : goal.loop-part-init
loop-part-init c before h = (before, h, refl)

pub loop-part-preserved : goal.loop-part-preserved
loop-part-preserved c before h =
    let xs = c.args.parts.now in
    let i = c.loop-part.part-index in
    let x = c.part-item.result in
    let was = c.loop-part.invariant before h in (
      was.0 ++ measured_part (attached_of x),
      c.add_part.ensures was.0 was.1,
      written_one measured_part was.0 (was.0 ++ measured_part (attached_of x)) _ (drop i (map attached_of xs)) (drop (i + 1) (map attached_of xs)) (attached_of x)
          (from_index attached_of i xs x (omega (arith, c.loop-part-test.true)) c.part-item.is) refl was.2,
    )

pub returns : goal.returns
returns c before h =
    let xs = c.args.parts.now in
    let i = c.loop-part.part-index in
    let was = c.loop-part.invariant before h in
    held_all c.loop-part.hasher measured_part (drop i (map attached_of xs)) was.0 _ (at_end attached_of i xs (omega (arith, c.loop-part-test.false))) was.2 was.1
