use Rattle.mk_mailbox.proofs.MailboxRuns.{calls_give}
use Rattle.mk_mailbox.proofs.laws.calls_give_the_messages.Goals as goal

pub returns : goal.returns
returns c = calls_give
