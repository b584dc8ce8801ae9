use Rattle.std.proofs.Common.{◌+◌, ◌++◌, ap, refl, map, drop, arith}
use Rattle.mk_pack.specs.OwnBoundary.{measured}
use Rattle.mk_build.proofs.Failing.{at_end, from_index, written_one}
use Rattle.mk_pack.proofs.HeldDigests.{held_all, held_as}
use Rattle.mk_pack.proofs.boundaries.add_fields.Goals as goal

pub loop-field-init : goal.loop-field-init
loop-field-init c before h = (before, h, refl)

pub loop-field-preserved : goal.loop-field-preserved
loop-field-preserved c before h =
    let xs = c.args.fields.now in
    let i = c.loop-field.field-index in
    let x = c.field-item.result in
    let was = c.loop-field.invariant before h in (
      was.0 ++ measured x.items,
      held_as c.add_measured.new.hasher _ _ (ap (λ t. was.0 ++ measured t) c.deref.ensures.value) (c.add_measured.ensures was.0 was.1),
      written_one measured was.0 (was.0 ++ measured x.items) _ (drop i (map (λ f. f.items) xs)) (drop (i + 1) (map (λ f. f.items) xs)) x.items
          (from_index (λ f. f.items) i xs x (omega (arith, c.loop-field-test.true)) c.field-item.is) refl was.2,
    )

pub returns : goal.returns
returns c before h =
    let xs = c.args.fields.now in
    let i = c.loop-field.field-index in
    let was = c.loop-field.invariant before h in
    held_all c.loop-field.hasher measured (drop i (map (λ f. f.items) xs)) was.0 _ (at_end (λ f. f.items) i xs (omega (arith, c.loop-field-test.false))) was.2 was.1
