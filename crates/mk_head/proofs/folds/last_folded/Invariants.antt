use Rattle.std.proofs.Common.{◌≡◌, ◌+◌, ◌≤◌, length}
use Rattle.mk_head.specs.inner.Folds.{fold_size}
use Rattle.mk_head.proofs.folds.last_folded.Given as goal

abbrev pub invariant-each : goal.invariant-each
invariant-each l = record {
  size : fold_size l.text + length l.rest ≡ length l.text + fold_size l.rest;
  within : length l.rest ≤ length l.text;
}

abbrev pub decreases-each : goal.decreases-each
decreases-each l = length l.rest
