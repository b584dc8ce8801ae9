use Rattle.std.proofs.Common.{ap, ◌∙◌, arith}
use Rattle.mk_tree.specs.Sections.{body_text}
use Rattle.mk_tree.proofs.SectionViews.{section_keeps, front_fits, body_is}
use Rattle.mk_tree.proofs.section.Section.body.Goals as goal

pub split_at-requires : goal.split_at-requires
split_at-requires c =
    let k = section_keeps c.self.inside.node.now c.self.inside.raw.now c.self.inside.start c.self.inside.digest c.self.inside.left c.self.invariant in
    front_fits c.self.inside.raw.now c.self.inside.left c.self.inside.digest _ _ k.fields k.separator

pub overflow_add-front : goal.overflow_add-front
overflow_add-front c =
    let k = section_keeps c.self.inside.node.now c.self.inside.raw.now c.self.inside.start c.self.inside.digest c.self.inside.left c.self.invariant in
    omega (arith, front_fits c.self.inside.raw.now c.self.inside.left c.self.inside.digest _ _ k.fields k.separator, c.self.invariant.fits)

pub returns : goal.returns
returns c =
    let k = section_keeps c.self.inside.node.now c.self.inside.raw.now c.self.inside.start c.self.inside.digest c.self.inside.left c.self.invariant in
    c.split_at.ensures.back ∙ (body_is c.self.inside.raw.now c.self.inside.left c.self.inside.digest _ _ k.fields k.separator ∙ ap body_text c.self.view_is)
