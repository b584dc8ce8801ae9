use Rattle.std.proofs.Common.{◌≡◌, ◌∙◌, ap, sym, None}
use Rattle.std.proofs.lemmas.Result.{err_from_is_err_and}
use Rattle.mk_splice.specs.Misfits.{misfit}
use Rattle.mk_splice.specs.Views.{steps_of}
use Rattle.mk_edit.proofs.Loadings.{loaded_other, loaded_own, loaded_fits, fit_refuses}
use Rattle.mk_edit.proofs.session.fitting.Goals as goal

pub returns-then-not-is_of-clause-err : goal.returns-then-not-is_of-clause-err
returns-then-not-is_of-clause-err c =
    loaded_other c.args.text.now c.args.file.now c.in_ok-journal.journal c.in_ok-journal.ensures.ok (sym c.is_of.ensures ∙ c.if-not-is_of.true)

pub returns-in_err-fit-clause-err : goal.returns-in_err-fit-clause-err
returns-in_err-fit-clause-err c =
    let refused = err_from_is_err_and c.from_residual-in_err-fit.result c.from_residual-in_err-fit.ensures.1 in
    rw (refused.1, refused.2)
    (fit_refuses c.args.text.now c.args.file.now c.in_ok-journal.journal c.deref.result.now c.in_err-fit.field-0.0 c.in_ok-journal.ensures.ok (sym c.is_of.ensures ∙ c.if-not-is_of.false) c.deref.ensures.value c.in_err-fit.ensures.err)

pub returns-clause-ok : goal.returns-clause-ok
returns-clause-ok c =
    let fits : misfit c.args.text.now (steps_of c.in_ok-journal.journal.steps.items) c.in_ok-journal.journal.done ≡ None = ap (λ s. misfit c.args.text.now (steps_of s) c.in_ok-journal.journal.done) (sym c.deref.ensures.value) ∙ c.in_ok-fit.ensures.ok in
    record {
      loads = loaded_own c.args.text.now c.args.file.now c.in_ok-journal.journal None c.in_ok-journal.ensures.ok (sym c.is_of.ensures ∙ c.if-not-is_of.false) fits;
      fits = loaded_fits c.args.text.now c.in_ok-journal.journal c.in_ok-journal.ensures.within fits;
    }
