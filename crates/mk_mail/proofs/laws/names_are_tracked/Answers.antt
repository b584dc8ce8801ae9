use Rattle.mk_mail.proofs.NamesTracked.{names_tracked}
use Rattle.mk_mail.proofs.laws.names_are_tracked.Goals as goal

pub returns : goal.returns
returns c = names_tracked
