use Rattle.mk_head.proofs.ByGrammar.{quoted_read}
use Rattle.mk_head.proofs.laws.quoted_strings_are_read.Goals as goal

pub returns : goal.returns
returns c = quoted_read
