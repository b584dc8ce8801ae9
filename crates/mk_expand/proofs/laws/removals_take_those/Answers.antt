use Rattle.mk_expand.proofs.RemovalsMade.{removals_made}
use Rattle.mk_expand.proofs.laws.removals_take_those.Goals as goal

pub returns : goal.returns
returns c = removals_made
