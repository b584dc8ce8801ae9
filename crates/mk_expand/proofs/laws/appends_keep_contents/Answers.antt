use Rattle.mk_expand.proofs.AppendsKept.{appends_kept}
use Rattle.mk_expand.proofs.laws.appends_keep_contents.Goals as goal

pub returns : goal.returns
returns c = appends_kept
