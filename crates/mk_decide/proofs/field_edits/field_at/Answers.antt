use Rattle.std.proofs.Common.{ap, ◌∙◌, arith}
use Rattle.mk_decide.specs.FieldPuts.{placed_field, raw_size}
use Rattle.mk_decide.proofs.FieldPlaces.{fields_within}
use Rattle.mk_decide.proofs.field_edits.field_at.Goals as goal

pub loop-field-init : goal.loop-field-init
loop-field-init c =
    let same = c.into_iter-field-iterator.ensures.into_iter_gives ∙ c.each_field-field-items.ensures.fields in
    record { rest = ap (placed_field c.args.name.now c.args.k 0) same; within = omega (arith, ap raw_size same, fields_within c.args.head.now) }
