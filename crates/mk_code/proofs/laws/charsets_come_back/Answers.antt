use Rattle.mk_code.proofs.InCharsets.{charsets_back}
use Rattle.mk_code.proofs.laws.charsets_come_back.Goals as goal

pub returns : goal.returns
returns c = charsets_back
