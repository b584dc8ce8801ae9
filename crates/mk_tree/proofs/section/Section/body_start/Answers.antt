use Rattle.std.proofs.Common.{◌+◌, ap, ◌∙◌, arith}
use Rattle.mk_head.specs.Split.{head_lines}
use Rattle.mk_tree.specs.Spans.{size}
use Rattle.mk_tree.specs.Tree.{entity_head}
use Rattle.mk_tree.specs.Sections.{Placed}
use Rattle.mk_tree.proofs.SectionViews.{section_keeps, front_fits, body_place}
use Rattle.mk_tree.proofs.section.Section.body_start.Goals as goal

pub overflow_add-head : goal.overflow_add-head
overflow_add-head c =
    let k = section_keeps c.self.inside.node.now c.self.inside.raw.now c.self.inside.start c.self.inside.digest c.self.inside.left c.self.invariant in
    omega (arith, front_fits c.self.inside.raw.now c.self.inside.left c.self.inside.digest _ _ k.fields k.separator, c.self.invariant.fits)

pub overflow_add-result : goal.overflow_add-result
overflow_add-result c =
    let k = section_keeps c.self.inside.node.now c.self.inside.raw.now c.self.inside.start c.self.inside.digest c.self.inside.left c.self.invariant in
    omega (arith, front_fits c.self.inside.raw.now c.self.inside.left c.self.inside.digest _ _ k.fields k.separator, c.self.invariant.fits)

pub returns : goal.returns
returns c =
    let k = section_keeps c.self.inside.node.now c.self.inside.raw.now c.self.inside.start c.self.inside.digest c.self.inside.left c.self.invariant in
    body_place c.self.inside.raw.now c.self.inside.start c.self.inside.left c.self.inside.digest _ _ k.fields k.separator
    ∙ ap (λ (p : Placed). p.start + size (head_lines (entity_head p.entity))) c.self.view_is
