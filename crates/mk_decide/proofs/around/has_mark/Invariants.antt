use Rattle.std.proofs.Common.{◌≡◌}
use Rattle.mk_line.specs.Lines.{cut as lines_of}
use Rattle.mk_decide.specs.Outcomes.{has_mark}
use Rattle.mk_decide.proofs.around.has_mark.Given as goal

abbrev pub invariant-loop-line : goal.invariant-loop-line
invariant-loop-line l = has_mark l.boundary l.line-iterator ≡ has_mark l.boundary (lines_of l.text)
