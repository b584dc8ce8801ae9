use Rattle.mk_mailbox.proofs.LineBytes.{whole_is}
use Rattle.mk_mailbox.proofs.gathering.whole_line.Goals as goal

pub returns-then-last-eq-LINE_FEED : goal.returns-then-last-eq-LINE_FEED
returns-then-last-eq-LINE_FEED c = whole_is c.args.line.now c.content_of.result.now c.requires c.if-last-eq-LINE_FEED.true c.content_of.ensures
