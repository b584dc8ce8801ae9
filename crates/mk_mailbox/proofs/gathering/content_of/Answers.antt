use Rattle.mk_mailbox.proofs.LineBytes.{ended_before, ended_without}
use Rattle.mk_mailbox.proofs.gathering.content_of.Goals as goal

pub returns-in-Some : goal.returns-in-Some
returns-in-Some c = ended_before c.args.bytes.now c.in-Some.content.now c.in-Some.ensures

pub returns-in-None : goal.returns-in-None
returns-in-None c = ended_without c.args.bytes.now c.in-None.ensures
