use Rattle.mk_mail.proofs.RoundsMade.{piped}
use Rattle.mk_mail.proofs.laws.rounds_are_piped.Goals as goal

pub returns : goal.returns
returns c = piped
