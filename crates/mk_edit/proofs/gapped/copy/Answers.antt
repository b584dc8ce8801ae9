use Rattle.mk_edit.proofs.Gaps.{copied_nowhere}
use Rattle.mk_edit.proofs.gapped.copy.Goals as goal

pub returns-else-from-to-clause-items : goal.returns-else-from-to-clause-items
returns-else-from-to-clause-items c = copied_nowhere c.args.from c.args.count c.args.to c.args.items.now.items c.if-from-to.false
