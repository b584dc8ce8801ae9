use Rattle.mk_tree.proofs.Stability.{read_stable}
use Rattle.mk_tree.proofs.laws.reading_is_stable.Goals as goal

pub returns : goal.returns
returns c = read_stable
