use Rattle.mk_pack.proofs.GonePieces.{pieces_written, written_not_read, written_not_wanting}
use Rattle.mk_pack.proofs.outgoing.give.Goals as goal

pub returns-in-Ok-clause-written : goal.returns-in-Ok-clause-written
returns-in-Ok-clause-written g c = rw c.in-Ok.is (pieces_written c.give_pieces.result c.in-Ok.pieces.bytes _ _ (g.E.Sink.contents c.args.err.now) c.give_pieces.ensures.well c.give_pieces.ensures.all c.give_pieces.ensures.front)

pub returns-in-Err-clause-not_read : goal.returns-in-Err-clause-not_read
returns-in-Err-clause-not_read g c = written_not_read c.print.result c.print.ensures.only

pub returns-in-Err-clause-memory : goal.returns-in-Err-clause-memory
returns-in-Err-clause-memory g c = written_not_wanting c.print.result _ c.print.ensures.only
