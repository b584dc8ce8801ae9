use Rattle.std.proofs.Common.{◌≡◌}
use Rattle.mk_head.specs.Fields.{counted}
use Rattle.mk_tree.specs.Sections.{section_fields}
use Rattle.mk_tree.proofs.section.Section.field.Given as goal

abbrev pub invariant-loop-found : goal.invariant-loop-found
invariant-loop-found l = counted l.left l.found-iterator ≡ counted l.k (section_fields l.self)
