use Rattle.mk_seen.proofs.FirstsSaid.{none_comes_again_lem}
use Rattle.mk_seen.proofs.laws.none_comes_again.Goals as goal

pub returns : goal.returns
returns c = none_comes_again_lem
