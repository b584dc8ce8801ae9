use Rattle.mk_mail.proofs.BuiltMessages.{built_multiparts_lem}
use Rattle.mk_mail.proofs.laws.built_multiparts_give_back.Goals as goal

pub returns : goal.returns
returns c = built_multiparts_lem
