use Rattle.mk_mailbox.proofs.PieceLaws.{all_pieces}
use Rattle.mk_mailbox.proofs.laws.pieces_are_all.Goals as goal

pub returns : goal.returns
returns c = all_pieces
