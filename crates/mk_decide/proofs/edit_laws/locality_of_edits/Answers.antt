use Rattle.mk_decide.proofs.EveryEdit.{locality_lem}
use Rattle.mk_decide.proofs.edit_laws.locality_of_edits.Goals as goal

pub returns : goal.returns
returns c = locality_lem
