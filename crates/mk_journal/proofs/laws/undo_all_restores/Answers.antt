use Rattle.mk_journal.proofs.AllStepsRun.{undo_all_lem}
use Rattle.mk_journal.proofs.laws.undo_all_restores.Goals as goal

pub returns : goal.returns
returns c = undo_all_lem
