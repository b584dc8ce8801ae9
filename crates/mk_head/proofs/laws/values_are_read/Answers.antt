use Rattle.mk_head.proofs.ByGrammar.{values_read}
use Rattle.mk_head.proofs.laws.values_are_read.Goals as goal

pub returns : goal.returns
returns c = values_read
