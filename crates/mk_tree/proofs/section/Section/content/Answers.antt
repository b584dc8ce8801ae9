use Rattle.std.proofs.Common.{ap, sym, ◌∙◌}
use Rattle.mk_line.specs.Lines.{cut, text_of}
use Rattle.mk_tree.specs.Sections.{body_text, content_text, unended}
use Rattle.mk_tree.proofs.SectionViews.{content_ended}
use Rattle.mk_tree.proofs.section.Section.content.Goals as goal

pub returns-then-self : goal.returns-then-self
returns-then-self c =
    c.unended.ensures
    ∙ (ap (λ b. text_of (unended (cut b))) (c.body-body.ensures ∙ ap body_text (sym c.self.view_is))
    ∙ (content_ended c.self.inside.raw.now c.self.inside.start c.self.inside.followed c.self.inside.digest c.self.inside.left c.if-self.true ∙ ap content_text c.self.view_is))
