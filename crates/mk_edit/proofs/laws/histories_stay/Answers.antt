use Rattle.mk_edit.proofs.Leading.{histories_stay_lem}
use Rattle.mk_edit.proofs.laws.histories_stay.Goals as goal

pub returns : goal.returns
returns c = histories_stay_lem
