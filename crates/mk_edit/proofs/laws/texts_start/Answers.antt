use Rattle.mk_edit.proofs.Leading.{texts_start_lem}
use Rattle.mk_edit.proofs.laws.texts_start.Goals as goal

pub returns : goal.returns
returns c = texts_start_lem
