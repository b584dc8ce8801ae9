use Rattle.mk_head.proofs.Apart.{splits_read}
use Rattle.mk_head.proofs.laws.splits_are_read.Goals as goal

pub returns : goal.returns
returns c = splits_read
