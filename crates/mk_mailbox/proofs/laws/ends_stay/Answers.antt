use Rattle.mk_mailbox.proofs.MailboxRuns.{ends_stay}
use Rattle.mk_mailbox.proofs.laws.ends_stay.Goals as goal

pub returns : goal.returns
returns c = ends_stay
