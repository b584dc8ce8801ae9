use Rattle.std.proofs.Common.{◌∙◌, sym, refl, arith, map}
use Rattle.mk_splice.specs.Misfits.{step_taken_back}
use Rattle.mk_splice.specs.Views.{splice_of}
use Rattle.mk_splice.proofs.Trials.{no_steps, all_back_turn, all_back_stops, tried_all, tried_none}
use Rattle.mk_splice.proofs.fitting.fit_back.Goals as goal

pub returns-then-not-branch-clause-err : goal.returns-then-not-branch-clause-err
returns-then-not-branch-clause-err c =
    sym c.loop-left.invariant.same
    ∙ all_back_stops c.args.steps.now c.loop-left.left c.index-steps-left.result c.deref.result.now c.loop-left.trial.bytes c.loop-left-test.true c.loop-left.invariant.within c.index-steps-left.is c.deref.ensures.value
    (tried_none c.in_ok-try_back.field-0 c.try_back.new.text.bytes (step_taken_back (map splice_of c.deref.result.now) c.loop-left.trial.bytes) c.in_ok-try_back.ensures c.if-not-branch.true)

pub loop-left-preserved : goal.loop-left-preserved
loop-left-preserved c = record {
  within = omega (arith, c.loop-left.invariant.within);
  same =
      all_back_turn c.args.steps.now c.loop-left.left c.index-steps-left.result c.deref.result.now c.loop-left.trial.bytes c.try_back.new.text.bytes c.loop-left-test.true c.loop-left.invariant.within c.index-steps-left.is c.deref.ensures.value
      (tried_all c.in_ok-try_back.field-0 c.try_back.new.text.bytes (step_taken_back (map splice_of c.deref.result.now) c.loop-left.trial.bytes) c.in_ok-try_back.ensures c.if-not-branch.false)
      ∙ c.loop-left.invariant.same;
}

pub returns-then-is_empty-clause-ok : goal.returns-then-is_empty-clause-ok
returns-then-is_empty-clause-ok c =
    let none = no_steps c.args.steps.now c.is_empty.result c.is_empty.ensures c.if-is_empty.true in
    rw none (c.args.text.now, refl)
