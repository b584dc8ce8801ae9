use Rattle.mk_edit.proofs.Undoing.{undoing_restores_lem}
use Rattle.mk_edit.proofs.laws.undoing_restores.Goals as goal

pub returns : goal.returns
returns c = undoing_restores_lem
