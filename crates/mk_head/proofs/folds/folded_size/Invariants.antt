use Rattle.std.proofs.Common.{◌≡◌, ◌+◌, ◌-◌, ◌≤◌, length, drop}
use Rattle.mk_head.specs.inner.Folds.{fold_size}
use Rattle.mk_head.proofs.folds.folded_size.Given as goal

abbrev pub invariant-each : goal.invariant-each
invariant-each l = record {
  front : fold_size l.text ≡ l.size + fold_size (drop l.size l.text);
  within : l.size ≤ length l.text;
}

abbrev pub decreases-each : goal.decreases-each
decreases-each l = length l.text - l.size
