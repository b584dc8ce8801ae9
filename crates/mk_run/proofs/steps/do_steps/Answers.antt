use Rattle.std.proofs.Common.{◌++◌, ◌∙◌, map, ap, sym, append_assoc}
use Rattle.std.proofs.lemmas.Result.{err_from_is_err_and}
use Rattle.std.proofs.KnownBytes.{Appends-trans}
use Rattle.mk_run.specs.Runs.{reported, errors_of, history_after}
use Rattle.mk_expand.specs.Views.{pieces_of}
use Rattle.mk_script.specs.ScriptViews.{step_by}
use Rattle.mk_transfer.proofs.Fronts.{AppendsFront-following, not-is_nil-append}
use Rattle.mk_run.proofs.steps.do_steps.Goals as goal

pub returns-in_err-refused-clause-sends : goal.returns-in_err-refused-clause-sends
returns-in_err-refused-clause-sends g c =
    let stopped = err_from_is_err_and c.from_residual.result c.from_residual.ensures.1 in
    let sent = c.loop-step.invariant.sent in
    let part = c.in_err-refused.ensures.sends in
    let rest = ap (λ items. sent.0 ++ errors_of (pieces_of c.args.pieces) (map step_by items) c.loop-step.session) c.in-Some.ensures.steps.0 in
    rw (stopped.1, stopped.2) (record {
      front = AppendsFront-following _ _ _ sent.0 _ _ _ sent.2 part.front (sent.1 ∙ rest);
      fault = λ h. rw c.loop-step.invariant.well at (part.fault h);
      steady = λ h. rw c.loop-step.invariant.well at (part.steady h);
      counted = rw c.loop-step.invariant.well at part.counted;
    })

pub loop-step-preserved : goal.loop-step-preserved
loop-step-preserved g c =
    let sent = c.loop-step.invariant.sent in
    let part = c.in_ok-refused.ensures.sends in
    let items = c.in-Some.ensures.steps.0 in
    let report = reported (pieces_of c.args.pieces) (step_by c.in-Some.step) c.loop-step.session in
    record {
      done = rw c.in_ok-refused.ensures.done (sym (ap (λ steps. history_after (pieces_of c.args.pieces) (map step_by steps) c.loop-step.session) items) ∙ c.loop-step.invariant.done);
      sent = (
        sent.0 ++ report,
        rw c.in_ok-refused.ensures.done (sent.1 ∙ ap (λ steps. sent.0 ++ errors_of (pieces_of c.args.pieces) (map step_by steps) c.loop-step.session) items ∙ sym (append_assoc sent.0 report _)),
        Appends-trans _ _ _ sent.0 report sent.2 part.whole,
        rw (sent.3, c.in_ok-refused.ensures.refused) (sym (not-is_nil-append sent.0 report)),
      );
      well = part.well ∙ c.loop-step.invariant.well;
    }
