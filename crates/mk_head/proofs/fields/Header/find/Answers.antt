use Rattle.std.proofs.Common.{◌∙◌, sym}
use Rattle.mk_head.specs.Fields.{is_named}
use Rattle.mk_head.specs.Views.{field_view}
use Rattle.mk_head.proofs.Headers.{found_next, passed_next}
use Rattle.mk_head.proofs.fields.Header.find.Goals.{then-is_named+else-left-eq1, else-is_named}
use Rattle.mk_head.proofs.fields.Header.find.Goals as goal

pub loop-field-preserved : goal.loop-field-preserved
loop-field-preserved c =
    elim c.if-is_named.branch [
      | then-is_named+else-left-eq1 w ↦ found_next field_view (is_named c.args.name.now) c.deref-field-items.result.now c.loop-field.field-index _ c.loop-field.left c.if-is_named.left _ c.loop-field-test.true (sym c.is_named.ensures ∙ w.if-is_named.true) w.if-left-eq1.false (w.left-is ∙ w.saturating_sub-left.ensures) c.loop-field.invariant
      | else-is_named w ↦ passed_next field_view (is_named c.args.name.now) c.deref-field-items.result.now c.loop-field.field-index _ c.loop-field.left c.if-is_named.left _ c.loop-field-test.true (sym c.is_named.ensures ∙ w.if-is_named.false) w.left-is c.loop-field.invariant
    ]
