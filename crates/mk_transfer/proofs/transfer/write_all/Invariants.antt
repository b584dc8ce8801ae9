use Rattle.std.proofs.Common.{◌≡◌, List, ℕ, ◌++◌, length}
use Rattle.std.specs.Io.KnownBytes.{Appends}
use Rattle.mk_transfer.proofs.transfer.write_all.Given as goal

abbrev pub invariant-loop-rest : goal.invariant-loop-rest
invariant-loop-rest g l = record {
  bytes : (front : List ℕ) × (l.bytes ≡ front ++ l.rest) × Appends (g.O.Sink.contents l.fn.out) (g.O.Sink.contents l.out) front;
  well : g.O.Sink.failures l.out ≡ g.O.Sink.failures l.fn.out;
  unfinished : g.O.Sink.finishes l.out ≡ g.O.Sink.finishes l.fn.out;
}

abbrev pub decreases-loop-rest : goal.decreases-loop-rest
decreases-loop-rest g l = length l.rest
