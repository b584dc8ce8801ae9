use Rattle.std.proofs.Common.{◌≡◌, ◌+◌, ◌-◌, ◌≤◌, length, drop}
use Rattle.mk_splice.specs.Misfits.{all_made}
use Rattle.mk_splice.specs.Views.{steps_of}
use Rattle.mk_splice.proofs.fitting.fit_forth.Given as goal

abbrev pub invariant-loop-made : goal.invariant-loop-made
invariant-loop-made l = record {
  within : l.made ≤ length l.steps;
  same : all_made (l.made + 1) (steps_of (drop l.made l.steps)) l.trial.bytes ≡ all_made (l.done + 1) (steps_of (drop l.done l.steps)) l.text;
}

abbrev pub decreases-loop-made : goal.decreases-loop-made
decreases-loop-made l = length l.steps - l.made
