use Rattle.mk_tree.proofs.Kept.{lines_kept}
use Rattle.mk_tree.proofs.laws.lines_are_kept.Goals as goal

pub returns : goal.returns
returns c = lines_kept
