use Rattle.std.proofs.Common.{ap, sym, ◌∙◌}
use Rattle.mk_head.specs.Fields.{counted}
use Rattle.mk_tree.proofs.Counting.{counted_after}
use Rattle.mk_tree.proofs.section.Section.child.Goals as goal

pub loop-section-preserved : goal.loop-section-preserved
loop-section-preserved c =
    ap (λ n. counted n c.next.new.self) c.saturating_sub-left.ensures
    ∙ (counted_after c.in-Some.section c.next.new.self c.loop-section.left c.if-left-eq1.false
    ∙ (ap (counted c.loop-section.left) (sym c.in-Some.ensures.steps) ∙ c.loop-section.invariant))
