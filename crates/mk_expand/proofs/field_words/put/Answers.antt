use Rattle.std.proofs.Common.{◌≡◌, IfOk, sym, ◌∙◌, subst}
use Rattle.mk_expand.specs.Views.{plain_edits}
use Rattle.mk_expand.proofs.FieldsFound.{put_told}
use Rattle.mk_expand.proofs.field_words.put.Goals as goal

pub returns-then-one_field : goal.returns-then-one_field
returns-then-one_field c =
    subst (λ all. IfOk c.put_over_named.result (λ edits. plain_edits edits.items ≡ all))
    (put_told c.args.doc.now c.args.path.now c.name_in.result.now c.head.result.now c.args.text.now c.in-Some.section (sym c.section.ensures ∙ c.in-Some.is) c.head.ensures c.name_in.ensures (sym c.one_field.ensures ∙ c.if-one_field.true)) c.put_over_named.ensures
