use Rattle.mk_head.proofs.Apart.{reads_split}
use Rattle.mk_head.proofs.laws.reads_are_split.Goals as goal

pub returns : goal.returns
returns c = reads_split
