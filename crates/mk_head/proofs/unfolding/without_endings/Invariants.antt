use Rattle.std.proofs.Common.{◌≡◌, ◌++◌}
use Rattle.mk_line.specs.Lines.{cut as lines_of}
use Rattle.mk_head.specs.Unfolding.{contents}
use Rattle.mk_head.proofs.unfolding.without_endings.Given as goal

abbrev pub invariant-loop-line : goal.invariant-loop-line
invariant-loop-line l = l.joined.items ++ contents l.line-iterator ≡ contents (lines_of l.text)
