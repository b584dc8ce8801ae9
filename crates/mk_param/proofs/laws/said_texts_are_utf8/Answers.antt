use Rattle.mk_param.proofs.SaidTexts.{said_utf8}
use Rattle.mk_param.proofs.laws.said_texts_are_utf8.Goals as goal

pub returns : goal.returns
returns c = said_utf8
