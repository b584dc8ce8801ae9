use Rattle.std.proofs.Common.{codes}
use Rattle.mk_tree.specs.Documents.{tree}
use Rattle.mk_tree.proofs.ChangeRows.{a_first_body}
use Rattle.mk_tree_tests.specs.inner.Changes.{Changes}
use Rattle.mk_tree_tests.proofs.tests.changes.a_separator_and_a_body_after_fields_alone.Goals as goal

pub check_change-requires : goal.check_change-requires
unfolding Changes
check_change-requires g c = (tree (codes "Subject: s\n\nbody"), a_first_body c.in_ok-text.text.items c.in_ok-text.ensures.items)
