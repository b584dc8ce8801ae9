use Rattle.mk_expand.proofs.ContentsBack.{contents_back}
use Rattle.mk_expand.proofs.laws.contents_are_given_back.Goals as goal

pub returns : goal.returns
returns c = contents_back
