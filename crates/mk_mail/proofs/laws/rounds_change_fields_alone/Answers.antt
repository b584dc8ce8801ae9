use Rattle.mk_mail.proofs.RoundsMade.{rounds_alone}
use Rattle.mk_mail.proofs.laws.rounds_change_fields_alone.Goals as goal

pub returns : goal.returns
returns c = rounds_alone
