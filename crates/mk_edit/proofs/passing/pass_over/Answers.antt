use Rattle.std.proofs.Common.{ap, ◌∙◌, arith}
use Rattle.mk_decide.specs.FieldPuts.{raw_size}
use Rattle.mk_decide.proofs.FieldPlaces.{fields_within}
use Rattle.mk_edit.specs.inner.Passing.{passed_over}
use Rattle.mk_edit.proofs.passing.pass_over.Goals as goal

pub loop-field-init : goal.loop-field-init
loop-field-init c =
    let same = c.into_iter-field-iterator.ensures.into_iter_gives ∙ c.each_field-field-items.ensures.fields in
    record { rest = ap (passed_over c.args.name.now c.args.k 0) same; within = omega (arith, ap raw_size same, fields_within c.args.fields.now) }
