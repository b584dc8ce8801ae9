use Rattle.std.proofs.Common.{◌≡◌, ◌-◌, ◌+◌, ◌∙◌, List, map, sym, arith}
use Rattle.std.proofs.lemmas.Result.{err_from_is_err_and}
use Rattle.std.specs.Global.{Vec}
use Rattle.mk_splice.specs.declared.splicing.Splice.{Splice as SpliceIn}
use Rattle.mk_splice.specs.Splices.{Splice}
use Rattle.mk_splice.specs.Grammar.{StepText, read_step}
use Rattle.mk_splice.specs.Readers.{read_times}
use Rattle.mk_splice.specs.Views.{splice_of, steps_of}
use Rattle.mk_splice.specs.inner.Parts.{step_meant}
use Rattle.mk_splice.proofs.Readings.{one_more_at, one_fails_at, all_read, gives_same, gives_stopped, count_same, step_consumes}
use Rattle.mk_splice.proofs.reading.read_steps.Goals as goal

pub returns-in_err-step : goal.returns-in_err-step
returns-in_err-step c =
    λ n e. (let stopped = err_from_is_err_and c.from_residual.result c.from_residual.ensures.1 in
    gives_same (List StepText) (Vec (Vec SpliceIn)) (λ ss v. steps_of v.items ≡ map step_meant ss) (read_times c.args.count (read_step c.args.version) c.args.bytes.now) (read_times n (read_step c.args.version) c.args.bytes.now) c.from_residual.result
    (count_same StepText (read_step c.args.version) (step_consumes c.args.version) c.args.count n c.args.bytes.now e (omega arith))
    (gives_stopped (List StepText) (Vec (Vec SpliceIn)) (λ ss v. steps_of v.items ≡ map step_meant ss) (read_times c.args.count (read_step c.args.version) c.args.bytes.now) c.from_residual.result stopped.0 c.in_err-step.field-0.0 stopped.1 stopped.2
    (one_fails_at StepText (Vec SpliceIn) (List Splice) (λ v. map splice_of v.items) step_meant (read_step c.args.version) c.args.count c.args.bytes.now (c.args.count - c.loop.counter) (c.args.count - c.loop.counter - 1) c.loop.rest.now c.loop.steps.items c.in_err-step.field-0.0 (omega (arith, c.loop-test.true)) c.loop.invariant c.in_err-step.ensures)))

pub loop-preserved : goal.loop-preserved
loop-preserved c =
    let read = c.in_ok-step.ensures in
    one_more_at StepText (Vec SpliceIn) (List Splice) (λ v. map splice_of v.items) step_meant (read_step c.args.version) c.args.count c.args.bytes.now (c.args.count - c.loop.counter) (c.args.count - (c.loop.counter + 1)) c.loop.rest.now c.in_ok-step.following.now c.loop.steps.items _ read.0 c.in_ok-step.step (omega (arith, c.loop-test.true)) c.in_ok-push.ensures.items c.loop.invariant read.1 read.2

pub returns : goal.returns
returns c =
    λ n e. (let told = all_read StepText (Vec SpliceIn) (List Splice) (λ v. map splice_of v.items) step_meant (read_step c.args.version) c.args.count c.args.bytes.now (c.args.count - c.loop.counter) c.loop.rest.now c.loop.steps.items (omega (arith, c.loop-test.false)) c.loop.invariant in
    (told.0, sym (count_same StepText (read_step c.args.version) (step_consumes c.args.version) c.args.count n c.args.bytes.now e (omega arith)) ∙ told.1, told.2))
