use Rattle.mk_mailbox.proofs.CutPlaces.{others_none}
use Rattle.mk_mailbox.proofs.laws.others_stay_whole.Goals as goal

pub returns : goal.returns
returns c = others_none
