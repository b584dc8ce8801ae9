use Rattle.std.proofs.Common.{sym, subst, ◌∙◌}
use Rattle.mk_tree.specs.ChangeViews.{ChangesTo}
use Rattle.mk_tree.specs.Documents.{Document, tree}
use Rattle.mk_tree_tests.specs.inner.Changes.{Changes}
use Rattle.mk_tree_tests.proofs.tests.memory.check_change.Goals as goal

pub splice-requires : goal.splice-requires
unfolding Changes
splice-requires g c = subst (λ x. (u : Document) × ChangesTo c.args.path.now c.args.change (tree x) u) (sym c.in-Ok-Ok.ensures) c.requires

pub splice-requires-in-Err : goal.splice-requires-in-Err
unfolding Changes
splice-requires-in-Err g c =
    let same = c.in-Err.ensures.same ∙ c.in-Ok-Ok.ensures in
    let first = subst (λ x. (u : Document) × ChangesTo c.args.path.now c.args.change (tree x) u) (sym same) c.requires in
    subst (λ change. (u : Document) × ChangesTo c.args.path.now change (tree c.splice.new.self) u) (sym c.in-Err.ensures.change) first
