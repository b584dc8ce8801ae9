use Rattle.std.proofs.Common.{ap, sym, ◌∙◌, filter}
use Rattle.mk_head.specs.Fields.{counted, is_named}
use Rattle.mk_head.specs.Views.{field_view}
use Rattle.mk_tree.proofs.Counting.{counted_on}
use Rattle.mk_tree.proofs.section.Section.find.Goals as goal

pub loop-field-preserved-then-is_named : goal.loop-field-preserved-then-is_named
loop-field-preserved-then-is_named c =
    ap (λ n. counted n (filter (is_named c.args.name.now) c.next.new.self)) c.saturating_sub-left.ensures
    ∙ (counted_on (is_named c.args.name.now) (field_view c.in-Some.field) c.next.new.self c.loop-field.left (sym c.is_named.ensures ∙ c.if-is_named.true) c.if-left-eq1.false
    ∙ (ap (λ xs. counted c.loop-field.left (filter (is_named c.args.name.now) xs)) (sym c.in-Some.ensures.steps) ∙ c.loop-field.invariant))
