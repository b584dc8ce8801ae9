use Rattle.std.proofs.Common.{arith}
use Rattle.mk_edit.proofs.Gaps.{written_after}
use Rattle.mk_edit.proofs.gapped.move_and_write.Goals as goal

pub returns-clause-rest : goal.returns-clause-rest
returns-clause-rest c =
    written_after c.args.front c.args.rest c.args.count c.args.to c.args.text.now c.args.items.now.items c.copy.new.items.items c.replace_within.new.items.items c.replace_within.ensures.items c.copy.ensures.items
    (omega arith) (omega arith) (omega arith) (omega (arith, c.args.items.now.ok.0))
