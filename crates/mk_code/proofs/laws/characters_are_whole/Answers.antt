use Rattle.mk_code.proofs.Characters.{characters_whole}
use Rattle.mk_code.proofs.laws.characters_are_whole.Goals as goal

pub returns : goal.returns
returns c = characters_whole
