use Rattle.std.proofs.Common.{◌≡◌, drop, false}
use Rattle.mk_tree.specs.Documents.{tree}
use Rattle.mk_tree.specs.Sections.{root_of}
use Rattle.mk_decide.specs.Around.{glued_below}
use Rattle.mk_decide.proofs.around.is_glued.Given as goal

abbrev pub invariant-loop-number : goal.invariant-loop-number
invariant-loop-number l = glued_below l.glued (drop l.number-index l.numbers) l.section ≡ glued_below false l.numbers (root_of (tree l.doc))
