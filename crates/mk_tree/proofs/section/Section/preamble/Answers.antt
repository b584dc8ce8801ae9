use Rattle.std.proofs.Common.{◌≡◌, ap, sym, ◌∙◌, arith, length, take}
use Rattle.mk_line.specs.Lines.{cut, text_of}
use Rattle.mk_tree.specs.Tree.{read}
use Rattle.mk_tree.specs.Spans.{size}
use Rattle.mk_tree.specs.Forms.{form_preamble}
use Rattle.mk_tree.specs.Sections.{Placed, body_lines, body_text, preamble_lines}
use Rattle.mk_tree.proofs.SectionViews.{section_keeps, preamble_size, preamble_within, preamble_is}
use Rattle.mk_tree.proofs.section.Section.preamble.Goals as goal

pub split_at-requires : goal.split_at-requires
split_at-requires c =
    let k = section_keeps c.self.inside.node.now c.self.inside.raw.now c.self.inside.start c.self.inside.digest c.self.inside.left c.self.invariant in
    omega (
      arith,
      c.preamble-size.ensures,
      ap form_preamble k.form,
      preamble_size c.self.inside.digest (read c.self.inside.left c.self.inside.digest (cut c.self.inside.raw.now)),
      preamble_within c.self.inside.raw.now c.self.inside.left c.self.inside.digest,
      ap length (c.body.ensures ∙ ap body_text (sym c.self.view_is)),
    )

pub returns : goal.returns
returns c =
    let k = section_keeps c.self.inside.node.now c.self.inside.raw.now c.self.inside.start c.self.inside.digest c.self.inside.left c.self.invariant in
    let e = read c.self.inside.left c.self.inside.digest (cut c.self.inside.raw.now) in
    let p : c.preamble-size.result ≡ size (preamble_lines e) = c.preamble-size.ensures ∙ (ap form_preamble k.form ∙ preamble_size c.self.inside.digest e) in
    let q : c.body.result.now ≡ text_of (body_lines e) = c.body.ensures ∙ ap body_text (sym c.self.view_is) in
    c.split_at.ensures.front ∙ ((λ i. take (p i) (q i)) ∙ (preamble_is e ∙ ap (λ (s : Placed). text_of (preamble_lines s.entity)) c.self.view_is))
