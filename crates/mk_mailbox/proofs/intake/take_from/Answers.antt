use Rattle.mk_mailbox.proofs.Intaking.{taken_over}
use Rattle.mk_mailbox.proofs.intake.take_from.Goals as goal

pub returns-clause-ok : goal.returns-clause-ok
returns-clause-ok c =
    taken_over c.args.chunk.now c.args.gathered.now.bytes.items c.take.new.self.bytes.items c.args.at c.args.filled c.line_end-count.result c.requires.chunk.ordered c.in_ok-take.ensures.ok
