use Rattle.std.proofs.Common.{◌≡◌, length}
use Rattle.mk_script.specs.Reasons.{arguments_fault}
use Rattle.mk_script.proofs.reasons.arguments_fault.Given as goal

abbrev pub invariant-loop-argument : goal.invariant-loop-argument
invariant-loop-argument l = arguments_fault l.left l.rest ≡ arguments_fault l.arguments l.text

abbrev pub decreases-loop-argument : goal.decreases-loop-argument
decreases-loop-argument l = length l.left
