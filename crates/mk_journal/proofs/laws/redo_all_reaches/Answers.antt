use Rattle.mk_journal.proofs.AllStepsRun.{redo_all_lem}
use Rattle.mk_journal.proofs.laws.redo_all_reaches.Goals as goal

pub returns : goal.returns
returns c = redo_all_lem
