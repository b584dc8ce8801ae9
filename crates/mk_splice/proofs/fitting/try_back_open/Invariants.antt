use Rattle.std.proofs.Common.{◌≡◌, ◌≤◌, length, map, take}
use Rattle.mk_splice.specs.Misfits.{step_taken_back}
use Rattle.mk_splice.specs.Views.{splice_of}
use Rattle.mk_splice.specs.inner.Open.{shut}
use Rattle.mk_splice.proofs.fitting.try_back_open.Given as goal

abbrev pub invariant-loop-left : goal.invariant-loop-left
invariant-loop-left l = record {
  within : l.left ≤ length l.step;
  same : step_taken_back (map splice_of (take l.left l.step)) (shut l.gapped) ≡ step_taken_back (map splice_of l.step) l.fn.text.bytes;
}

abbrev pub decreases-loop-left : goal.decreases-loop-left
decreases-loop-left l = l.left
