use Rattle.mk_tree.specs.Documents.{tree}
use Rattle.mk_tree.proofs.ChangeRows.{a_part, three}
use Rattle.mk_tree_tests.specs.inner.Changes.{Changes}
use Rattle.mk_tree_tests.proofs.tests.memory.memory_splice_part_more.Goals as goal

pub check_change-requires : goal.check_change-requires
unfolding Changes
check_change-requires g c = (tree three, a_part c.in-Ok.text.items c.in-Ok.ensures.items)
