use Rattle.std.proofs.Common.{◌≡◌, ◌++◌, ◌⊎◌, ◌<◌, ◌≤◌, length}
use Rattle.mk_pack.proofs.outgoing.gather.Given as goal

abbrev pub invariant-each : goal.invariant-each
invariant-each l = record {
  told : l.piece.items ++ l.pieces.bytes ≡ l.fn.pieces.bytes;
  most : l.pieces.most ≤ l.fn.pieces.most;
  fewer : (length l.piece.items ≡ 0) ⊎ (l.pieces.most < l.fn.pieces.most);
}

abbrev pub decreases-each : goal.decreases-each
decreases-each l = l.pieces.most
