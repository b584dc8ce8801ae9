use Rattle.std.proofs.Common.{◌≡◌, false, length, map}
use Rattle.mk_script.specs.ScriptSteps.{first_fault}
use Rattle.mk_script.specs.inner.Lines.{line_in}
use Rattle.mk_script.proofs.groups.first_fault.Given as goal

abbrev pub invariant-loop-line : goal.invariant-loop-line
invariant-loop-line l = first_fault l.inside (map line_in l.rest) ≡ first_fault false (map line_in l.lines)

abbrev pub decreases-loop-line : goal.decreases-loop-line
decreases-loop-line l = length l.rest
