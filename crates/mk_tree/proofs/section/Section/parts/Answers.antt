use Rattle.std.proofs.Common.{ap, ◌∙◌, length}
use Rattle.mk_tree.specs.Sections.{children}
use Rattle.mk_tree.specs.declared.node.Node.TheViews.{out-Node}
use Rattle.mk_tree.proofs.SectionViews.{section_keeps}
use Rattle.mk_tree.proofs.Below.{parts_count}
use Rattle.mk_tree.proofs.section.Section.parts.Goals as goal

pub returns : goal.returns
returns c =
    let k = section_keeps c.self.inside.node.now c.self.inside.raw.now c.self.inside.start c.self.inside.digest c.self.inside.left c.self.invariant in
    c.len.ensures
    ∙ ((out-Node c.self.inside.node.now).parts.ok.0
    ∙ (parts_count c.self.inside.node.now c.self.inside.raw.now c.self.inside.start c.self.inside.followed c.self.inside.digest c.self.inside.left k ∙ ap (λ p. length (children p)) c.self.view_is))
