use Rattle.std.proofs.Common.{◌≡◌, ◌||◌, ap, sym, ◌∙◌, not, map}
use Rattle.mk_tree.specs.Nodes.{node_span}
use Rattle.mk_tree.specs.Layouts.{placed_along}
use Rattle.mk_tree.proofs.Below.{more_after, step_along}
use Rattle.mk_tree.proofs.children.ChildrenIterator.next.Goals.{then-not-is_empty, else-not-is_empty}
use Rattle.mk_tree.proofs.children.ChildrenIterator.next.Goals as goal

pub returns-clause-steps : goal.returns-clause-steps
returns-clause-steps c =
    let f : c.if-not-is_empty.section ≡ (not c.is_empty.result || c.self.inside.followed) =
    elim c.if-not-is_empty.branch [
      | then-not-is_empty w ↦ w.section-is ∙ (ap not w.if-not-is_empty.true ∙ sym (ap (λ t. not t || c.self.inside.followed) w.if-not-is_empty.true))
      | else-not-is_empty w ↦ w.section-is ∙ sym (ap (λ t. not t || c.self.inside.followed) w.if-not-is_empty.false)
    ] in
    sym c.self.view_is
    ∙ (ap (λ ns. placed_along (map node_span ns) c.self.inside.rest.now c.self.inside.start c.self.inside.followed c.self.inside.digest c.self.inside.left) c.in_ok-node.ensures.cases.0
    ∙ step_along c.in_ok-node.node.now c.in_ok-node.others.now c.self.inside.rest.now c.split_at.result.1.now c.split_at-2.result.0.now c.split_at-2.result.1.now c.self.inside.start c.self.inside.followed c.if-not-is_empty.section c.self.inside.digest c.self.inside.left
    c.split_at.ensures.back c.split_at-2.ensures.front c.split_at-2.ensures.back (more_after c.in_ok-node.others.now c.is_empty.result c.self.inside.followed c.if-not-is_empty.section c.is_empty.ensures f))
