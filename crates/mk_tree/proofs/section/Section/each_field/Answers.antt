use Rattle.std.proofs.Common.{ap, ◌∙◌, arith, false}
use Rattle.mk_line.specs.Lines.{cut}
use Rattle.mk_head.specs.Split.{fields_from}
use Rattle.mk_head.specs.Fields.{fields_of}
use Rattle.mk_tree.specs.Sections.{section_fields}
use Rattle.mk_tree.proofs.SectionViews.{section_keeps, fields_within, fields_are}
use Rattle.mk_tree.proofs.section.Section.each_field.Goals as goal

pub split_at-requires : goal.split_at-requires
split_at-requires c =
    omega (arith, (section_keeps c.self.inside.node.now c.self.inside.raw.now c.self.inside.start c.self.inside.digest c.self.inside.left c.self.invariant).fields, fields_within c.self.inside.raw.now c.self.inside.left c.self.inside.digest)

pub returns-clause-fields : goal.returns-clause-fields
returns-clause-fields c =
    c.each_field.ensures.fields
    ∙ (ap (λ xs. fields_of (fields_from false (cut xs))) c.split_at.ensures.front
    ∙ (fields_are c.self.inside.raw.now c.self.inside.start c.self.inside.followed c.self.inside.digest c.self.inside.left _ (section_keeps c.self.inside.node.now c.self.inside.raw.now c.self.inside.start c.self.inside.digest c.self.inside.left c.self.invariant).fields
    ∙ ap section_fields c.self.view_is))

pub returns-clause-few : goal.returns-clause-few
returns-clause-few c = omega arith
