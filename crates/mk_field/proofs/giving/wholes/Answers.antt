use Rattle.std.proofs.Common.{◌∙◌}
use Rattle.mk_field.proofs.FilterLemmas.{given_begun}
use Rattle.mk_field.proofs.giving.wholes.Goals as goal

pub loop-field-init : goal.loop-field-init
loop-field-init c =
    given_begun (λ f. f.raw) c.args.name.now c.new-text.result.items c.args.head.now c.into_iter-field-iterator.result c.new-text.ensures.items
    (c.into_iter-field-iterator.ensures.into_iter_gives ∙ c.each_field-field-items.ensures.fields)
