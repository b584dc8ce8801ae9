use Rattle.mk_mailbox.proofs.MailboxRuns.{ends_whole}
use Rattle.mk_mailbox.proofs.laws.ends_are_whole.Goals as goal

pub returns : goal.returns
returns c = ends_whole
