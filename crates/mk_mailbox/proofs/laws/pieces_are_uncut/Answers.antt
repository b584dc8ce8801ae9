use Rattle.mk_mailbox.proofs.PieceLaws.{uncut_pieces}
use Rattle.mk_mailbox.proofs.laws.pieces_are_uncut.Goals as goal

pub returns : goal.returns
returns c = uncut_pieces
