use Rattle.std.proofs.Common.{◌+◌, ◌-◌, ◌∙◌, ap, sym, arith, subst, length, map, take}
use Rattle.mk_splice.specs.Splices.{back_step, GoesBack}
use Rattle.mk_splice.specs.Peaks.{most_back}
use Rattle.mk_splice.specs.Views.{splice_of}
use Rattle.mk_splice.specs.inner.Open.{shut}
use Rattle.mk_splice.proofs.Splicings.{last_back, back_so, length-back, most_start, most_turn}
use Rattle.mk_splice.proofs.splicing.take_back_open.Goals as goal

pub replace_within-requires-clause-inside : goal.replace_within-requires-clause-inside
replace_within-requires-clause-inside c =
    let b = last_back c.args.step.now c.loop-left.left c.index-step-left.result (shut c.loop-left.gapped) c.loop-left-test.true c.loop-left.invariant.within c.index-step-left.is c.loop-left.invariant.goes in
    omega (arith, b.stands.within, c.len.ensures, c.index-step-left.result.new.ok.0)

pub replace_within-requires-clause-room : goal.replace_within-requires-clause-room
replace_within-requires-clause-room c =
    let b = last_back c.args.step.now c.loop-left.left c.index-step-left.result (shut c.loop-left.gapped) c.loop-left-test.true c.loop-left.invariant.within c.index-step-left.is c.loop-left.invariant.goes in
    let s = c.index-step-left.result in
    let n = length (shut c.loop-left.gapped) in
    let m = most_turn c.args.step.now c.loop-left.left s n c.loop-left-test.true c.loop-left.invariant.within c.index-step-left.is in
    let starts = most_start (map splice_of (take (c.loop-left.left - 1) c.args.step.now)) (n - length s.new.items + length s.old.items) in
    omega (arith, m, starts, b.stands.within, c.loop-left.invariant.room, ap length c.deref.ensures.value, c.len.ensures, s.new.ok.0)

pub loop-left-preserved : goal.loop-left-preserved
loop-left-preserved c =
    let b = last_back c.args.step.now c.loop-left.left c.index-step-left.result (shut c.loop-left.gapped) c.loop-left-test.true c.loop-left.invariant.within c.index-step-left.is c.loop-left.invariant.goes in
    let text = back_so c.index-step-left.result (shut c.loop-left.gapped) (shut c.replace_within.new.self) c.deref.result.now c.len.result c.replace_within.ensures.bytes (c.len.ensures ∙ c.index-step-left.result.new.ok.0) c.deref.ensures.value in
    record {
      within = omega (arith, c.loop-left.invariant.within);
      made = ap (back_step (map splice_of (take (c.loop-left.left - 1) c.args.step.now))) text ∙ (sym b.made ∙ c.loop-left.invariant.made);
      goes = subst (GoesBack (map splice_of (take (c.loop-left.left - 1) c.args.step.now))) (sym text) b.goes;
      room =
          let s = c.index-step-left.result in
          let m = most_turn c.args.step.now c.loop-left.left s (length (shut c.loop-left.gapped)) c.loop-left-test.true c.loop-left.invariant.within c.index-step-left.is in
          let long = ap (most_back (map splice_of (take (c.loop-left.left - 1) c.args.step.now))) (length-back s (shut c.loop-left.gapped) (shut c.replace_within.new.self) b.stands text) in
          omega (arith, m, long, c.loop-left.invariant.room, c.replace_within.ensures.room);
      capacity = omega (arith, c.loop-left.invariant.capacity, c.replace_within.ensures.capacity);
    }
