use Rattle.std.proofs.Common.{◌≡◌, None}
use Rattle.mk_tree.specs.Sections.{children}
use Rattle.mk_check.specs.Findings.{last_end}
use Rattle.mk_check.proofs.sections.last_end.Given as goal

abbrev pub invariant-loop-below : goal.invariant-loop-below
invariant-loop-below l = last_end l.last l.below-iterator ≡ last_end None (children l.section)
