use Rattle.std.proofs.Common.{◌≡◌, length}
use Rattle.mk_show.proofs.SentPieces.{IsHalfSent}
use Rattle.mk_show.proofs.sending.send_pieces.Given as goal

abbrev pub invariant-each : goal.invariant-each
invariant-each g l = record {
  sends : IsHalfSent l.fn.content l.content (g.O.Sink.contents l.fn.out) (g.O.Sink.contents l.out);
  well : g.O.Sink.failures l.out ≡ g.O.Sink.failures l.fn.out;
  unfinished : g.O.Sink.finishes l.out ≡ g.O.Sink.finishes l.fn.out;
}

abbrev pub decreases-each : goal.decreases-each
decreases-each g l = length l.content.text
