use Rattle.std.proofs.Common.{◌≡◌, ◌≤◌, length, map, take}
use Rattle.mk_splice.specs.Splices.{back_step, GoesBack}
use Rattle.mk_splice.specs.Peaks.{most_back}
use Rattle.mk_splice.specs.Views.{splice_of}
use Rattle.mk_splice.specs.inner.Open.{shut}
use Rattle.mk_splice.proofs.splicing.take_back_open.Given as goal

abbrev pub invariant-loop-left : goal.invariant-loop-left
invariant-loop-left l = record {
  within : l.left ≤ length l.step;
  made : back_step (map splice_of (take l.left l.step)) (shut l.gapped) ≡ back_step (map splice_of l.step) l.fn.text.bytes;
  goes : GoesBack (map splice_of (take l.left l.step)) (shut l.gapped);
  room : most_back (map splice_of (take l.left l.step)) (length (shut l.gapped)) ≤ l.gapped.room;
  capacity : l.fn.text.capacity ≤ l.gapped.capacity;
}

abbrev pub decreases-loop-left : goal.decreases-loop-left
decreases-loop-left l = l.left
