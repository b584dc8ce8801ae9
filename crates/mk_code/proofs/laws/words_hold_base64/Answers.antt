use Rattle.mk_code.proofs.Base64Words.{words_are_base64}
use Rattle.mk_code.proofs.laws.words_hold_base64.Goals as goal

pub returns : goal.returns
returns c = words_are_base64
