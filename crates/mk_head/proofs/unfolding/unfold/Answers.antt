use Rattle.std.proofs.Common.{◌∙◌}
use Rattle.mk_head.proofs.Parts.{unfolded_some, unfolded_none}
use Rattle.mk_head.proofs.unfolding.unfold.Goals as goal

pub returns-in-Some : goal.returns-in-Some
returns-in-Some c = unfolded_some c.args.field.now.raw.now c.in-Some.rest.now c.without_endings.result c.in-Some.ensures.some.1 c.without_endings.ensures

pub returns-in-None : goal.returns-in-None
returns-in-None c = c.new.ensures.items ∙ unfolded_none c.args.field.now.raw.now c.in-None.ensures.none
