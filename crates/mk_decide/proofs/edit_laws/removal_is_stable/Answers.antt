use Rattle.mk_decide.proofs.Removing.{removal_reasons_lem}
use Rattle.mk_decide.proofs.edit_laws.removal_is_stable.Goals as goal

pub returns : goal.returns
returns c = removal_reasons_lem
