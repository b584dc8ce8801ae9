use Rattle.mk_mail.proofs.RoundsMade.{one_round}
use Rattle.mk_mail.proofs.laws.one_round_filters.Goals as goal

pub returns : goal.returns
returns c = one_round
