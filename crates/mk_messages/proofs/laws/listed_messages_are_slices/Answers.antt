use Rattle.mk_messages.proofs.MessageSlices.{message_sliced}
use Rattle.mk_messages.proofs.laws.listed_messages_are_slices.Goals as goal

pub returns : goal.returns
returns c = message_sliced
