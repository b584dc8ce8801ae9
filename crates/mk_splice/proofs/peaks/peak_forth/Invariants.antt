use Rattle.std.proofs.Common.{◌≡◌, ◌≤◌, map, max, drop}
use Rattle.mk_splice.specs.Peaks.{most_forth}
use Rattle.mk_splice.specs.Views.{splice_of}
use Rattle.mk_splice.proofs.peaks.peak_forth.Given as goal

abbrev pub invariant-loop-splice : goal.invariant-loop-splice
invariant-loop-splice l = record {
  most : max l.most (most_forth (map splice_of (drop l.splice-index l.step)) l.now) ≡ most_forth (map splice_of l.step) l.fn.size;
  passed : l.now ≤ l.most;
}
