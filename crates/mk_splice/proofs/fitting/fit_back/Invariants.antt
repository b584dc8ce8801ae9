use Rattle.std.proofs.Common.{◌≡◌, ◌≤◌, length, take}
use Rattle.mk_splice.specs.Misfits.{all_taken_back}
use Rattle.mk_splice.specs.Views.{steps_of}
use Rattle.mk_splice.proofs.fitting.fit_back.Given as goal

abbrev pub invariant-loop-left : goal.invariant-loop-left
invariant-loop-left l = record {
  within : l.left ≤ length l.steps;
  same : all_taken_back 1 (steps_of (take l.left l.steps)) l.trial.bytes ≡ all_taken_back 1 (steps_of l.steps) l.text;
}

abbrev pub decreases-loop-left : goal.decreases-loop-left
decreases-loop-left l = l.left
