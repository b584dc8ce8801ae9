use Rattle.std.proofs.Common.{◌≡◌, ◌+◌, ap, ◌∙◌, length, arith}
use Rattle.mk_tree.specs.Spans.{size}
use Rattle.mk_tree.specs.Tree.{print}
use Rattle.mk_tree.specs.Sections.{Placed}
use Rattle.mk_tree.proofs.SectionViews.{raw_is}
use Rattle.mk_tree.proofs.section.Section.end.Goals as goal

pub returns : goal.returns
returns c =
    let same : length c.self.inside.raw.now + c.self.inside.start ≡ c.self.inside.start + length c.self.inside.raw.now = omega arith in
    same
    ∙ ap (λ ls. c.self.inside.start + length ls) (raw_is c.self.inside.raw.now c.self.inside.left c.self.inside.digest)
    ∙ ap (λ (p : Placed). p.start + size (print p.entity)) c.self.view_is
