use Rattle.std.proofs.Common.{◌≡◌, ◌+◌, false, []}
use Rattle.std.specs.Bool.{if◌then◌else◌}
use Rattle.mk_pack.proofs.GonePieces.{IsPartSent}
use Rattle.mk_pack.proofs.outgoing.send_pieces.Given as goal

abbrev pub invariant-each : goal.invariant-each
invariant-each g l = record {
  sent : IsPartSent l.fn.pieces.bytes l.rest.bytes (g.O.Sink.contents l.fn.out) (g.O.Sink.contents l.out);
  ended : l.more ≡ false → l.rest.bytes ≡ [];
  well : g.O.Sink.failures l.out ≡ g.O.Sink.failures l.fn.out;
  unfinished : g.O.Sink.finishes l.out ≡ g.O.Sink.finishes l.fn.out;
}

-- none are left once no more come
abbrev pub decreases-each : goal.decreases-each
decreases-each g l = if l.more then l.rest.most + 1 else 0
