use Rattle.std.proofs.Common.{◌∙◌, sym, arith}
use Rattle.mk_splice.proofs.Splicings.{back_so}
use Rattle.mk_splice.proofs.Trials.{back_turn, back_stops, stands_so}
use Rattle.mk_splice.proofs.fitting.try_back_in_turn.Goals as goal

pub returns-then-not-stand : goal.returns-then-not-stand
returns-then-not-stand c =
    sym c.loop-left.invariant.same
    ∙ back_stops c.args.step.now c.loop-left.left c.index-step-left.result c.loop-left.text.bytes c.loop-left-test.true c.loop-left.invariant.within c.index-step-left.is
    (stands_so c.index-step-left.result.place c.deref.result.now c.index-step-left.result.new.items c.bytes.result.now c.loop-left.text.bytes c.stand.result _ c.stand.ensures c.deref.ensures.value c.bytes.ensures c.if-not-stand.true)

pub loop-left-preserved : goal.loop-left-preserved
loop-left-preserved c = record {
  within = omega (arith, c.loop-left.invariant.within);
  same =
      back_turn c.args.step.now c.loop-left.left c.index-step-left.result c.loop-left.text.bytes c.replace.new.self.bytes c.loop-left-test.true c.loop-left.invariant.within c.index-step-left.is
      (stands_so c.index-step-left.result.place c.deref.result.now c.index-step-left.result.new.items c.bytes.result.now c.loop-left.text.bytes c.stand.result _ c.stand.ensures c.deref.ensures.value c.bytes.ensures c.if-not-stand.false)
      (back_so c.index-step-left.result c.loop-left.text.bytes c.replace.new.self.bytes c.deref-in-loop-left.result.now c.len.result c.in_ok-replace.ensures.ok (c.len.ensures ∙ c.index-step-left.result.new.ok.0) c.deref-in-loop-left.ensures.value)
      ∙ c.loop-left.invariant.same;
}
