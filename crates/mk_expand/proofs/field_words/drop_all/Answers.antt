use Rattle.std.proofs.Common.{◌≡◌, IfOk, sym, ◌∙◌, subst}
use Rattle.mk_expand.specs.Views.{plain_edits}
use Rattle.mk_expand.proofs.FieldsFound.{dropped_told}
use Rattle.mk_expand.proofs.field_words.drop_all.Goals as goal

pub returns-in-Some : goal.returns-in-Some
returns-in-Some c =
    subst (λ all. IfOk c.removals.result (λ edits. plain_edits edits.items ≡ all))
    (dropped_told c.args.doc.now c.args.path.now c.args.name.now c.head.result.now c.in-Some.section (sym c.section.ensures ∙ c.in-Some.is) c.head.ensures) c.removals.ensures
