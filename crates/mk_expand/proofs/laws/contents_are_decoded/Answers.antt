use Rattle.mk_expand.proofs.Base64Read.{contents_are_decoded}
use Rattle.mk_expand.proofs.laws.contents_are_decoded.Goals as goal

pub returns : goal.returns
returns c = contents_are_decoded
