use Rattle.mk_code.proofs.Pieces.{character_cut}
use Rattle.mk_code.proofs.words_encoding.character_len.Goals as goal

pub returns-clause-character : goal.returns-clause-character
returns-clause-character c = character_cut c.args.text.now c.continuation_front.result c.requires c.continuation_front.ensures.front
