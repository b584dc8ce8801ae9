use Rattle.std.proofs.Common.{codes}
use Rattle.mk_tree.specs.Documents.{tree}
use Rattle.mk_tree.proofs.ChangeRows.{another_body}
use Rattle.mk_tree_tests.specs.inner.Changes.{Changes}
use Rattle.mk_tree_tests.proofs.tests.memory.memory_splice_body.Goals as goal

pub check_change-requires : goal.check_change-requires
unfolding Changes
check_change-requires g c = (tree (codes "Subject: s\n\nother\nlines\n"), another_body c.in-Ok.text.items c.in-Ok.ensures.items)
