use Rattle.std.proofs.Common.{◌≡◌, ◌≤◌, length, map, drop}
use Rattle.mk_splice.specs.Splices.{forth_step, GoesForth}
use Rattle.mk_splice.specs.Peaks.{most_forth}
use Rattle.mk_splice.specs.Views.{splice_of}
use Rattle.mk_splice.specs.inner.Open.{shut}
use Rattle.mk_splice.proofs.splicing.make_again_open.Given as goal

abbrev pub invariant-loop-splice : goal.invariant-loop-splice
invariant-loop-splice l = record {
  made : forth_step (map splice_of (drop l.splice-index l.step)) (shut l.gapped) ≡ forth_step (map splice_of l.step) l.fn.text.bytes;
  goes : GoesForth (map splice_of (drop l.splice-index l.step)) (shut l.gapped);
  room : most_forth (map splice_of (drop l.splice-index l.step)) (length (shut l.gapped)) ≤ l.gapped.room;
  capacity : l.fn.text.capacity ≤ l.gapped.capacity;
}
