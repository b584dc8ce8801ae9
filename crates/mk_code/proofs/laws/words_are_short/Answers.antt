use Rattle.mk_code.proofs.Characters.{words_short}
use Rattle.mk_code.proofs.laws.words_are_short.Goals as goal

pub returns : goal.returns
returns c = words_short
