use Rattle.std.proofs.Common.{codes}
use Rattle.mk_tree.specs.Documents.{tree}
use Rattle.mk_tree.proofs.ChangeRows.{a_message}
use Rattle.mk_tree_tests.specs.inner.Changes.{Changes}
use Rattle.mk_tree_tests.proofs.tests.changes.a_message_in_the_place_of_a_leaf.Goals as goal

pub check_change-requires : goal.check_change-requires
unfolding Changes
check_change-requires g c = (tree (codes "Content-Type: message/rfc822\n\nSubject: s\n\nx\n"), a_message c.in_ok-text.text.items c.in_ok-text.ensures.items)
