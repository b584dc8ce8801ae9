use Rattle.mk_code.proofs.Contents.{content_same}
use Rattle.mk_code.proofs.laws.content_is_unique.Goals as goal

pub returns : goal.returns
returns c = content_same
