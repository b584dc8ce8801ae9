use Rattle.std.proofs.Common.{◌≡◌, ap, ◌∙◌, arith}
use Rattle.mk_line.specs.Lines.{cut, text_of}
use Rattle.mk_tree.specs.Tree.{read}
use Rattle.mk_tree.specs.Spans.{size}
use Rattle.mk_tree.specs.Forms.{form_epilogue}
use Rattle.mk_tree.specs.Sections.{Placed, epilogue_lines}
use Rattle.mk_tree.proofs.SectionViews.{section_keeps, epilogue_sized, epilogue_within, epilogue_is}
use Rattle.mk_tree.proofs.section.Section.epilogue.Goals as goal

pub overflow_sub-self-inside : goal.overflow_sub-self-inside
overflow_sub-self-inside c =
    let k = section_keeps c.self.inside.node.now c.self.inside.raw.now c.self.inside.start c.self.inside.digest c.self.inside.left c.self.invariant in
    let e = read c.self.inside.left c.self.inside.digest (cut c.self.inside.raw.now) in
    let p : c.epilogue-size.result ≡ size (epilogue_lines e) = c.epilogue-size.ensures ∙ (ap form_epilogue k.form ∙ epilogue_sized c.self.inside.digest e) in
    omega (arith, p, epilogue_within c.self.inside.raw.now c.self.inside.left c.self.inside.digest)

pub returns : goal.returns
returns c =
    let k = section_keeps c.self.inside.node.now c.self.inside.raw.now c.self.inside.start c.self.inside.digest c.self.inside.left c.self.invariant in
    let e = read c.self.inside.left c.self.inside.digest (cut c.self.inside.raw.now) in
    let p : c.epilogue-size.result ≡ size (epilogue_lines e) = c.epilogue-size.ensures ∙ (ap form_epilogue k.form ∙ epilogue_sized c.self.inside.digest e) in
    c.split_at.ensures.back
    ∙ (epilogue_is c.self.inside.raw.now c.self.inside.left c.self.inside.digest _ p ∙ ap (λ (s : Placed). text_of (epilogue_lines s.entity)) c.self.view_is)
