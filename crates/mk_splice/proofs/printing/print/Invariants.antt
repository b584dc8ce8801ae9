use Rattle.std.proofs.Common.{◌≡◌, ◌++◌, drop}
use Rattle.mk_splice.specs.Journals.{digest_of}
use Rattle.mk_splice.specs.Printed.{printed}
use Rattle.mk_splice.specs.Views.{steps_of}
use Rattle.mk_splice.specs.inner.Parts.{AreSmallSteps, printed_steps}
use Rattle.mk_splice.proofs.printing.print.Given as goal

abbrev pub invariant-loop-step : goal.invariant-loop-step
invariant-loop-step l = record {
  printed : l.out.items ++ printed_steps (steps_of (drop l.step-index l.steps)) ≡ printed (digest_of l.text) (steps_of l.steps) l.done;
  small : AreSmallSteps (steps_of (drop l.step-index l.steps)) → AreSmallSteps (steps_of l.steps);
}
