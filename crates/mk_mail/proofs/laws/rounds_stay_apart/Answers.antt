use Rattle.mk_mail.proofs.RoundsMade.{rounds_apart}
use Rattle.mk_mail.proofs.laws.rounds_stay_apart.Goals as goal

pub returns : goal.returns
returns c = rounds_apart
