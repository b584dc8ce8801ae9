use Rattle.mk_check.proofs.Clean.{clean_decodes}
use Rattle.mk_check.proofs.laws.clean_messages_decode.Goals as goal

pub returns : goal.returns
returns c = clean_decodes
