use Rattle.std.proofs.Common.{length}
use Rattle.mk_tree.proofs.node.Node.+change.Given as goal

abbrev pub decreases-change : goal.decreases-change
decreases-change l = length l.numbers.now
