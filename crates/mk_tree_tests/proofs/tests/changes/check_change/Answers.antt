use Rattle.std.proofs.Common.{sym, subst}
use Rattle.mk_tree.specs.ChangeViews.{ChangesTo}
use Rattle.mk_tree.specs.Documents.{Document, tree}
use Rattle.mk_tree_tests.specs.inner.Changes.{Changes}
use Rattle.mk_tree_tests.proofs.tests.changes.check_change.Goals as goal

pub splice-changed-requires : goal.splice-changed-requires
unfolding Changes
splice-changed-requires g c = subst (λ x. (u : Document) × ChangesTo c.args.path.now c.args.change (tree x) u) (sym c.read-doc.ensures) c.requires
