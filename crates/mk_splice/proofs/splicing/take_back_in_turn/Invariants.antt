use Rattle.std.proofs.Common.{◌≡◌, ◌≤◌, length, map, take}
use Rattle.mk_splice.specs.Splices.{back_step, GoesBack}
use Rattle.mk_splice.specs.Peaks.{most_back}
use Rattle.mk_splice.specs.Views.{splice_of}
use Rattle.mk_splice.proofs.splicing.take_back_in_turn.Given as goal

abbrev pub invariant-loop-left : goal.invariant-loop-left
invariant-loop-left l = record {
  within : l.left ≤ length l.step;
  made : back_step (map splice_of (take l.left l.step)) l.text.bytes ≡ back_step (map splice_of l.step) l.fn.text.bytes;
  goes : GoesBack (map splice_of (take l.left l.step)) l.text.bytes;
  room : most_back (map splice_of (take l.left l.step)) (length l.text.bytes) ≤ l.text.capacity;
  capacity : l.fn.text.capacity ≤ l.text.capacity;
}

abbrev pub decreases-loop-left : goal.decreases-loop-left
decreases-loop-left l = l.left
