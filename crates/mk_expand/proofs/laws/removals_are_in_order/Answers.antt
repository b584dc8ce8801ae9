use Rattle.mk_expand.proofs.RemovalOrder.{removals_ordered}
use Rattle.mk_expand.proofs.laws.removals_are_in_order.Goals as goal

pub returns : goal.returns
returns c = removals_ordered
