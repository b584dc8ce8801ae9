use Rattle.std.proofs.Common.{◌≡◌, filter}
use Rattle.mk_head.specs.Fields.{counted, is_named}
use Rattle.mk_tree.specs.Sections.{section_fields}
use Rattle.mk_tree.proofs.section.Section.find.Given as goal

abbrev pub invariant-loop-field : goal.invariant-loop-field
invariant-loop-field l = counted l.left (filter (is_named l.name) l.field-iterator) ≡ counted l.k (filter (is_named l.name) (section_fields l.self))
