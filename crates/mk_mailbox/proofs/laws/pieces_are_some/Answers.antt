use Rattle.mk_mailbox.proofs.PieceLaws.{some_pieces}
use Rattle.mk_mailbox.proofs.laws.pieces_are_some.Goals as goal

pub returns : goal.returns
returns c = some_pieces
