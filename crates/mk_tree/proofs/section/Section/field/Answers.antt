use Rattle.std.proofs.Common.{ap, sym, ◌∙◌}
use Rattle.mk_head.specs.Fields.{counted}
use Rattle.mk_head.specs.Views.{field_view}
use Rattle.mk_tree.proofs.Counting.{counted_after}
use Rattle.mk_tree.proofs.section.Section.field.Goals as goal

pub loop-found-preserved : goal.loop-found-preserved
loop-found-preserved c =
    ap (λ n. counted n c.next.new.self) c.saturating_sub-left.ensures
    ∙ (counted_after (field_view c.in-Some.found) c.next.new.self c.loop-found.left c.if-left-eq1.false
    ∙ (ap (counted c.loop-found.left) (sym c.in-Some.ensures.steps) ∙ c.loop-found.invariant))
