use Rattle.mk_uses.proofs.Tagging.{AreTagged}
use Rattle.mk_uses.proofs.mailboxes.tag_each.Given as goal

abbrev pub invariant-loop-message : goal.invariant-loop-message
invariant-loop-message g l = AreTagged l.field (g.S.Source.remaining l.fn.source) (g.S.Source.remaining l.source) l.mailbox l.out.items
