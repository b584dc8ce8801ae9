use Rattle.mk_mailbox.proofs.LineBytes.{line_to_feed, line_without}
use Rattle.mk_mailbox.proofs.intake.line_end.Goals as goal

pub returns-in-Some-clause-line : goal.returns-in-Some-clause-line
returns-in-Some-clause-line c = line_to_feed c.args.bytes.now c.in-Some.end c.in-Some.ensures

pub returns-in-None-clause-line : goal.returns-in-None-clause-line
returns-in-None-clause-line c = line_without c.args.bytes.now c.in-None.ensures
