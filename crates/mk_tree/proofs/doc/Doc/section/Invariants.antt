use Rattle.std.proofs.Common.{◌≡◌, drop}
use Rattle.mk_tree.specs.Documents.{tree}
use Rattle.mk_tree.specs.Sections.{section_at, section_below}
use Rattle.mk_tree.proofs.doc.Doc.section.Given as goal

abbrev pub invariant-loop-number : goal.invariant-loop-number
invariant-loop-number l = section_below (drop l.number-index l.numbers) l.section ≡ section_at l.path (tree l.self)
