use Rattle.mk_mailbox.proofs.CutPlaces.{cuts_made}
use Rattle.mk_mailbox.proofs.laws.cuts_are_made.Goals as goal

pub returns : goal.returns
returns c = cuts_made
