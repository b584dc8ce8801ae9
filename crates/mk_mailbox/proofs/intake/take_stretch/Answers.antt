use Rattle.mk_mailbox.proofs.Intaking.{taken_over}
use Rattle.mk_mailbox.proofs.intake.take_stretch.Goals as goal

pub returns-clause-ok : goal.returns-clause-ok
returns-clause-ok c =
    taken_over c.args.chunk.now c.args.gathered.now.bytes.items c.take_stretch.new.self.bytes.items c.args.at c.args.filled c.size-size.result c.requires.chunk.ordered c.in_ok-take_stretch.ensures.ok
