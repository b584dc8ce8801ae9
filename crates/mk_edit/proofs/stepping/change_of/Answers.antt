use Rattle.std.proofs.Common.{sym, subst, inl, inr}
use Rattle.mk_decide.specs.Views.{edit_of}
use Rattle.mk_edit.proofs.FieldsMade.{IsOfFields, fields_made}
use Rattle.mk_edit.proofs.stepping.change_of.Goals as goal

of_fields : (c : goal.In-AddField) → IsOfFields (edit_of c.args.edit.now)
of_fields c =
    elim c.in-AddField.is [
      | inl h ↦ subst (λ e. IsOfFields (edit_of e)) (sym h.3) tt
      | inr r ↦
          elim r [
            | inl h ↦ subst (λ e. IsOfFields (edit_of e)) (sym h.3) tt
            | inr q ↦ elim q [ inl h ↦ subst (λ e. IsOfFields (edit_of e)) (sym h.4) tt | inr h ↦ subst (λ e. IsOfFields (edit_of e)) (sym h.4) tt ]
          ]
    ]

pub returns-in-AddField : goal.returns-in-AddField
returns-in-AddField c = λ x d. fields_made (edit_of c.args.edit.now) x (record { place = c.args.place; count = c.args.count; new = c.args.text.items }) (of_fields c) d
