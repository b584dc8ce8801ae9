use Rattle.std.proofs.Common.{codes}
use Rattle.mk_tree.specs.Documents.{tree}
use Rattle.mk_tree.proofs.ChangeRows.{a_field, field_text}
use Rattle.mk_tree_tests.specs.inner.Changes.{Changes}
use Rattle.mk_tree_tests.proofs.tests.memory.memory_splice_field.Goals as goal

pub check_change-requires : goal.check_change-requires
unfolding Changes
check_change-requires g c = (tree (codes "Subject: s\nA: b\n\nbody\n"), (a_field c.in-Ok.text.items c.in-Ok.ensures.items, field_text c.in-Ok.text.items c.in-Ok.ensures.items))
