use Rattle.mk_run.proofs.RoundRuns.{journals_change_nothing_lem}
use Rattle.mk_run.proofs.laws.journals_change_nothing.Goals as goal

pub returns : goal.returns
returns c = journals_change_nothing_lem
