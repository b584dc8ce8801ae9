use Rattle.std.proofs.Common.{◌≡◌, ◌+◌, ◌∙◌, None, drop, take}
use Rattle.std.proofs.lemmas.Result.{err_from_is_err_and}
use Rattle.mk_splice.specs.Misfits.{all_made, all_taken_back, misfit, Says}
use Rattle.mk_splice.specs.inner.Tries.{FailsWith, Succeeds}
use Rattle.mk_splice.specs.Views.{steps_of}
use Rattle.mk_splice.proofs.Trials.{misfit_parts, none_failed, failed_back, failed_forth, on_ok, if_err}
use Rattle.mk_splice.proofs.fitting.fit.Goals as goal

pub returns-in_err-fit_back-clause-err : goal.returns-in_err-fit_back-clause-err
returns-in_err-fit_back-clause-err c =
    let stopped = err_from_is_err_and c.from_residual.result c.from_residual.ensures.1 in
    rw (stopped.1, stopped.2, misfit_parts c.args.text.now c.args.steps.now c.args.done)
    (failed_back c.in_err-fit_back.field-0.0 (all_taken_back 1 (steps_of (take c.args.done c.args.steps.now)) c.args.text.now) (all_made (c.args.done + 1) (steps_of (drop c.args.done c.args.steps.now)) c.args.text.now) c.in_err-fit_back.ensures.err)

pub returns-clause-ok : goal.returns-clause-ok
returns-clause-ok c =
    on_ok (Succeeds (all_made (c.args.done + 1) (steps_of (drop c.args.done c.args.steps.now)) c.args.text.now)) (misfit c.args.text.now (steps_of c.args.steps.now) c.args.done ≡ None) c.fit_forth.result c.fit_forth.ensures.ok
    (λ g. misfit_parts c.args.text.now c.args.steps.now c.args.done
    ∙ none_failed (all_taken_back 1 (steps_of (take c.args.done c.args.steps.now)) c.args.text.now) (all_made (c.args.done + 1) (steps_of (drop c.args.done c.args.steps.now)) c.args.text.now) c.in_ok-fit_back.ensures.ok g)

pub returns-clause-err : goal.returns-clause-err
returns-clause-err c =
    if_err (λ e. FailsWith e (all_made (c.args.done + 1) (steps_of (drop c.args.done c.args.steps.now)) c.args.text.now)) (λ e. Says e (misfit c.args.text.now (steps_of c.args.steps.now) c.args.done)) c.fit_forth.result c.fit_forth.ensures.err
    (λ e g. rw (misfit_parts c.args.text.now c.args.steps.now c.args.done)
    (failed_forth e (all_taken_back 1 (steps_of (take c.args.done c.args.steps.now)) c.args.text.now) (all_made (c.args.done + 1) (steps_of (drop c.args.done c.args.steps.now)) c.args.text.now) c.in_ok-fit_back.ensures.ok g))
