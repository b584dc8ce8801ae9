use Rattle.mk_expand.proofs.BesideKept.{beside_kept}
use Rattle.mk_expand.proofs.laws.leaves_keep_contents.Goals as goal

pub returns : goal.returns
returns c = beside_kept
