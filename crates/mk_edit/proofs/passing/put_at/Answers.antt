use Rattle.std.proofs.Common.{◌∙◌, ap, arith, refl, subst}
use Rattle.mk_line.specs.Lines.{cut}
use Rattle.mk_decide.specs.Answers.{refusal_of, IsRefusedBy}
use Rattle.mk_decide.specs.FieldPuts.{puts, IsPut}
use Rattle.mk_edit.specs.SilentEdits.{numbered}
use Rattle.mk_edit.proofs.PassedFields.{following_is, put_inside, put_later, refused_later}
use Rattle.mk_edit.proofs.passing.put_at.Goals as goal

pub overflow_add-result : goal.overflow_add-result
overflow_add-result c = omega (arith, put_inside c.args.fields_after.now c.of_number.result c.in-Ok.put c.in-Ok.ensures.ok)

pub returns-in-Ok-clause-ok : goal.returns-in-Ok-clause-ok
returns-in-Ok-clause-ok c = λ fields same following.
    (let lines = ap cut same ∙ following_is fields c.args.bytes c.args.k c.args.edit.now following in
    put_later c.args.edit.now (cut fields) c.args.bytes c.args.k c.in-Ok.put _ following refl refl refl refl
    (subst (λ ls. IsPut c.in-Ok.put (puts (numbered c.args.edit.now c.args.k) ls)) lines (subst (λ e. IsPut c.in-Ok.put (puts e (cut c.args.fields_after.now))) c.of_number.ensures c.in-Ok.ensures.ok)))

pub returns-in-Err-clause-err : goal.returns-in-Err-clause-err
returns-in-Err-clause-err c = λ fields same following.
    (let lines = ap cut same ∙ following_is fields c.args.bytes c.args.k c.args.edit.now following in
    refused_later c.args.edit.now (cut fields) c.args.bytes c.args.k (refusal_of c.in-Err.error) following
    (subst (λ ls. IsRefusedBy (refusal_of c.in-Err.error) (puts (numbered c.args.edit.now c.args.k) ls)) lines (subst (λ e. IsRefusedBy (refusal_of c.in-Err.error) (puts e (cut c.args.fields_after.now))) c.of_number.ensures c.in-Err.ensures.err)))
