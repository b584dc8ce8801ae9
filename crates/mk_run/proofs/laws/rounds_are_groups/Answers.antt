use Rattle.mk_run.proofs.RoundRuns.{rounds_are_groups_lem}
use Rattle.mk_run.proofs.laws.rounds_are_groups.Goals as goal

pub returns : goal.returns
returns c = rounds_are_groups_lem
