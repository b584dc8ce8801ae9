use Rattle.mk_mail.proofs.BuiltMessages.{built_messages_lem}
use Rattle.mk_mail.proofs.laws.built_messages_give_back.Goals as goal

pub returns : goal.returns
returns c = built_messages_lem
