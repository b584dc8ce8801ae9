use Rattle.mk_tree.proofs.Equals.{stable_told}
use Rattle.mk_tree.proofs.laws.stability_is_told.Goals as goal

pub returns : goal.returns
returns c = stable_told
