use Rattle.std.proofs.Common.{ap, ◌∙◌, arith, false}
use Rattle.mk_line.specs.Lines.{cut}
use Rattle.mk_head.specs.Split.{fields_from}
use Rattle.mk_tree.specs.Sections.{Placed}
use Rattle.mk_tree.specs.Tree.{field_lines}
use Rattle.mk_tree.proofs.SectionViews.{section_keeps, fields_within, fields_again}
use Rattle.mk_tree.proofs.section.Section.field_bytes.Goals as goal

pub split_at-requires : goal.split_at-requires
split_at-requires c =
    omega (arith, (section_keeps c.self.inside.node.now c.self.inside.raw.now c.self.inside.start c.self.inside.digest c.self.inside.left c.self.invariant).fields, fields_within c.self.inside.raw.now c.self.inside.left c.self.inside.digest)

pub returns : goal.returns
returns c =
    ap (λ xs. fields_from false (cut xs)) c.split_at.ensures.front
    ∙ (fields_again c.self.inside.raw.now c.self.inside.digest c.self.inside.left _ (section_keeps c.self.inside.node.now c.self.inside.raw.now c.self.inside.start c.self.inside.digest c.self.inside.left c.self.invariant).fields ∙ ap (λ (p : Placed). field_lines p.entity) c.self.view_is)
