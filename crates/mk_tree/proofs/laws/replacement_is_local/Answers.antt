use Rattle.mk_tree.proofs.Stability.{replaced}
use Rattle.mk_tree.proofs.laws.replacement_is_local.Goals as goal

pub returns : goal.returns
returns c = replaced
