use Rattle.std.proofs.Common.{◌≡◌, ◌≤◌, length, map, max, take}
use Rattle.mk_splice.specs.Peaks.{most_back}
use Rattle.mk_splice.specs.Views.{splice_of}
use Rattle.mk_splice.proofs.peaks.peak_back.Given as goal

abbrev pub invariant-loop-left : goal.invariant-loop-left
invariant-loop-left l = record {
  within : l.left ≤ length l.step;
  most : max l.most (most_back (map splice_of (take l.left l.step)) l.now) ≡ most_back (map splice_of l.step) l.fn.size;
  passed : l.now ≤ l.most;
}

abbrev pub decreases-loop-left : goal.decreases-loop-left
decreases-loop-left l = l.left
