use Rattle.mk_mailbox.proofs.FoundLines.{whole_to_last}
use Rattle.mk_mailbox.proofs.stretches.end_of_lines.Goals as goal

pub returns-in-Some-clause-whole : goal.returns-in-Some-clause-whole
returns-in-Some-clause-whole c = whole_to_last c.args.bytes.now c.in-Some.feed c.in-Some.ensures
