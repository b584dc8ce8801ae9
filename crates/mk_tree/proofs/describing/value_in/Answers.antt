use Rattle.std.proofs.Common.{ap, sym, ◌∙◌}
use Rattle.mk_tree.specs.inner.Said.{first_value}
use Rattle.mk_tree.proofs.FieldValues.{value_among}
use Rattle.mk_tree.proofs.describing.value_in.Goals as goal

pub loop-field-init : goal.loop-field-init
loop-field-init c =
    ap (first_value c.args.name.now) (c.into_iter-field-iterator.ensures.into_iter_gives ∙ c.each_field-field-items.ensures.fields)
    ∙ sym (value_among c.args.name.now c.args.head.now)
