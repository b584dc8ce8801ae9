use Rattle.std.proofs.Common.{◌≡◌}
use Rattle.mk_head.specs.Fields.{counted}
use Rattle.mk_tree.specs.Sections.{children}
use Rattle.mk_tree.proofs.section.Section.child.Given as goal

abbrev pub invariant-loop-section : goal.invariant-loop-section
invariant-loop-section l = counted l.left l.section-iterator ≡ counted l.k (children l.self)
