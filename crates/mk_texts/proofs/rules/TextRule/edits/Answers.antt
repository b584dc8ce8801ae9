use Rattle.std.proofs.Common.{◌≡◌, ◌∙◌, IfOk, Some, ap, map, subst, sym}
use Rattle.std.specs.List.{list_any}
use Rattle.mk_head.specs.Fields.{is_named}
use Rattle.mk_decide.specs.Views.{edit_of}
use Rattle.mk_mail.specs.Letters.{fields_at}
use Rattle.mk_mail.specs.Rules.{rule_edits}
use Rattle.mk_texts.specs.TextViews.{rule_of}
use Rattle.mk_texts.proofs.RuleEdits.{none_changed}
use Rattle.mk_texts.proofs.rules.TextRule.edits.Goals as goal

pub returns-in_ok-changer : goal.returns-in_ok-changer
returns-in_ok-changer c = subst (λ fs. IfOk c.rule_edits.result (λ edits. map edit_of edits.items ≡ rule_edits c.args.path.now c.args.eol (rule_of c.args.self.now) (Some 1) fs)) c.head_at-head.ensures c.rule_edits.ensures

pub returns-else-has_field : goal.returns-else-has_field
returns-else-has_field c =
    ap (map edit_of) c.new-else-has_field.ensures.items
    ∙ sym (none_changed c.args.path.now c.args.eol (rule_of c.args.self.now) 1 (fields_at c.args.path.now c.args.doc.now)
    (sym (c.has_field.ensures ∙ (λ i. list_any (is_named (c.deref.ensures.value i)) (c.head_at-head.ensures i))) ∙ c.if-has_field.false))
