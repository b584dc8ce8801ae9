use Rattle.std.proofs.Common.{◌∙◌, ap, refl, sym, arith}
use Rattle.mk_splice.specs.Splices.{spliced}
use Rattle.mk_splice.specs.inner.Open.{shut}
use Rattle.mk_splice.proofs.Splicings.{back_so}
use Rattle.mk_splice.proofs.Trials.{back_turn, back_stops, stands_so}
use Rattle.mk_splice.proofs.fitting.try_back_open.Goals as goal

pub returns-then-not-finds : goal.returns-then-not-finds
returns-then-not-finds c =
    sym c.loop-left.invariant.same
    ∙ back_stops c.args.step.now c.loop-left.left c.index-step-left.result (shut c.loop-left.gapped) c.loop-left-test.true c.loop-left.invariant.within c.index-step-left.is
    (stands_so c.index-step-left.result.place c.deref.result.now c.index-step-left.result.new.items (shut c.loop-left.gapped) (shut c.loop-left.gapped) c.finds.result _ c.finds.ensures.found c.deref.ensures.value refl c.if-not-finds.true)

pub loop-left-preserved : goal.loop-left-preserved
loop-left-preserved c = record {
  within = omega (arith, c.loop-left.invariant.within);
  same =
      back_turn c.args.step.now c.loop-left.left c.index-step-left.result (shut c.loop-left.gapped) (shut c.replace.new.self) c.loop-left-test.true c.loop-left.invariant.within c.index-step-left.is
      (stands_so c.index-step-left.result.place c.deref.result.now c.index-step-left.result.new.items (shut c.loop-left.gapped) (shut c.loop-left.gapped) c.finds.result _ c.finds.ensures.found c.deref.ensures.value refl c.if-not-finds.false)
      (back_so c.index-step-left.result (shut c.loop-left.gapped) (shut c.replace.new.self) c.deref-in-loop-left.result.now c.len.result
      (c.in_ok-replace.ensures ∙ ap (spliced c.index-step-left.result.place c.len.result c.deref-in-loop-left.result.now) c.finds.ensures.same) (c.len.ensures ∙ c.index-step-left.result.new.ok.0) c.deref-in-loop-left.ensures.value)
      ∙ c.loop-left.invariant.same;
}
