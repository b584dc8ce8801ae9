use Rattle.std.proofs.Common.{ap, ◌∙◌, arith}
use Rattle.mk_tree.specs.Sections.{head_text}
use Rattle.mk_tree.proofs.SectionViews.{section_keeps, fields_within, head_is}
use Rattle.mk_tree.proofs.section.Section.head.Goals as goal

pub split_at-requires : goal.split_at-requires
split_at-requires c =
    omega (arith, (section_keeps c.self.inside.node.now c.self.inside.raw.now c.self.inside.start c.self.inside.digest c.self.inside.left c.self.invariant).fields, fields_within c.self.inside.raw.now c.self.inside.left c.self.inside.digest)

pub returns : goal.returns
returns c =
    c.split_at.ensures.front
    ∙ (head_is c.self.inside.raw.now c.self.inside.left c.self.inside.digest _ (section_keeps c.self.inside.node.now c.self.inside.raw.now c.self.inside.start c.self.inside.digest c.self.inside.left c.self.invariant).fields
    ∙ ap head_text c.self.view_is)
