use Rattle.std.proofs.Common.{◌≡◌, ◌++◌, drop, map}
use Rattle.mk_splice.specs.Printed.{printed_step}
use Rattle.mk_splice.specs.Views.{splice_of}
use Rattle.mk_splice.specs.inner.Parts.{AreSmallSplices, printed_entries}
use Rattle.mk_splice.proofs.printing.push_step.Given as goal

abbrev pub invariant-loop-splice : goal.invariant-loop-splice
invariant-loop-splice l = record {
  printed : l.out.items ++ printed_entries (map splice_of (drop l.splice-index l.step)) ≡ l.fn.out.items ++ printed_step (map splice_of l.step);
  small : AreSmallSplices (map splice_of (drop l.splice-index l.step)) → AreSmallSplices (map splice_of l.step);
}
