use Rattle.mk_decide.proofs.Counting.{names_lem}
use Rattle.mk_decide.proofs.edit_laws.names_are_replaced.Goals as goal

pub returns : goal.returns
returns c = names_lem
