use Rattle.std.proofs.Common.{◌≡◌, [], ap, refl, arith}
use Rattle.std.proofs.KnownBytes.{Appends-nil}
use Rattle.std.proofs.lemmas.Result.{err_from_is_err_and}
use Rattle.mk_expand.specs.Views.{pieces_of}
use Rattle.mk_script.specs.ScriptViews.{step_by}
use Rattle.mk_transfer.specs.RunClauses.{IsStopped}
use Rattle.mk_transfer.proofs.Fronts.{AppendsFront-none}
use Rattle.mk_run.specs.Runs.{outcome_of, report_of, reported}
use Rattle.mk_run.specs.inner.Making.{refusal_in}
use Rattle.mk_run.proofs.WordsMade.{told_reason}
use Rattle.mk_run.proofs.steps.do_step.Goals as goal

pub returns-in-Ok-clause-sends : goal.returns-in-Ok-clause-sends
returns-in-Ok-clause-sends g c =
    let none : reported (pieces_of c.args.pieces) (step_by c.args.step) c.args.session.now ≡ [] = ap report_of c.in-Ok.ensures in
    rw none (record { whole = Appends-nil _; well = refl })

pub returns-in_err-report_step-in-Err-clause-sends : goal.returns-in_err-report_step-in-Err-clause-sends
returns-in_err-report_step-in-Err-clause-sends g c =
    let stopped = err_from_is_err_and c.from_residual.result c.from_residual.ensures.1 in
    rw (stopped.1, stopped.2)
    (told_reason (λ bytes. IsStopped c.in_err-report_step-in-Err.field-0.0 bytes (g.E.Sink.contents c.args.err.now) (g.E.Sink.contents c.report_step.new.err) (g.E.Sink.failures c.args.err.now) (g.E.Sink.failures c.report_step.new.err))
    (refusal_in c.in-Err.error) (outcome_of (pieces_of c.args.pieces) (step_by c.args.step) c.args.session.now) c.in-Err.ensures.1 c.in_err-report_step-in-Err.ensures.sends
    (λ none. let m = c.in_err-report_step-in-Err.ensures.memory none in rw (m.1, m.2) (record { front = AppendsFront-none _ _; fault = λ e. absurd (cc); steady = λ _. refl; counted = omega arith })))
