use Rattle.mk_decide.proofs.Counting.{apart_lem}
use Rattle.mk_decide.proofs.edit_laws.fields_are_apart.Goals as goal

pub returns : goal.returns
returns c = apart_lem
