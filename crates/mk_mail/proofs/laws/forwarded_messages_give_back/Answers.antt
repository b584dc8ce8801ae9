use Rattle.mk_mail.proofs.BuiltMessages.{forwarded_messages_lem}
use Rattle.mk_mail.proofs.laws.forwarded_messages_give_back.Goals as goal

pub returns : goal.returns
returns c = forwarded_messages_lem
