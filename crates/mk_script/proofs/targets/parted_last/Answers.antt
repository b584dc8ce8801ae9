use Rattle.std.proofs.Common.{arith}
use Rattle.mk_script.proofs.PieceLemmas.{last-sliced}
use Rattle.mk_script.proofs.targets.parted_last.Goals as goal

pub returns-then-text-end : goal.returns-then-text-end
returns-then-text-end c =
    let some = c.each-test.true in
    let is = c.if-text-end.true in
    last-sliced c.args.separator c.args.text.now c.each.end c.each.invariant.0 (omega arith) is c.each.invariant.1
