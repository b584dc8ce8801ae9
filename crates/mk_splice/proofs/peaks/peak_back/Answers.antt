use Rattle.std.proofs.Common.{◌≡◌, ◌+◌, ◌-◌, ◌∙◌, ap, arith, length, map, max, sym, take}
use Rattle.std.proofs.Math.Seq.{take-length}
use Rattle.mk_splice.specs.Peaks.{most_back}
use Rattle.mk_splice.specs.Views.{splice_of}
use Rattle.mk_splice.proofs.Splicings.{longest_so_far, most_start, most_turn, too_long}
use Rattle.mk_splice.proofs.peaks.peak_back.Goals as goal

pub loop-left-init : goal.loop-left-init
loop-left-init c =
    let starts = most_start (map splice_of c.args.step.now) c.args.size in
    let whole = ap (λ ss. most_back (map splice_of ss) c.args.size) (take-length c.args.step.now) in
    record { within = omega arith; most = omega (arith, starts, whole); passed = omega arith }

pub returns-in_default-clause-none : goal.returns-in_default-clause-none
returns-in_default-clause-none c =
    let s = c.index-step-left.result in
    let n = c.loop-left.now in
    let next = n - length s.new.items + length s.old.items in
    let rest = most_back (map splice_of (take (c.loop-left.left - 1) c.args.step.now)) next in
    too_long 18446744073709551616 c.loop-left.most n next rest (most_back (map splice_of (take c.loop-left.left c.args.step.now)) n) (most_back (map splice_of c.args.step.now) c.args.size)
    (most_turn c.args.step.now c.loop-left.left s n c.loop-left-test.true c.loop-left.invariant.within c.index-step-left.is)
    (most_start (map splice_of (take (c.loop-left.left - 1) c.args.step.now)) next) c.loop-left.invariant.most
    (omega (arith, c.in_default.ensures, c.saturating_sub-kept.ensures, c.len.ensures, c.len-in-loop-left.ensures, s.new.ok.0, s.old.ok.0))

pub loop-left-preserved : goal.loop-left-preserved
loop-left-preserved c =
    let s = c.index-step-left.result in
    let n = c.loop-left.now in
    let next = n - length s.new.items + length s.old.items in
    let parts = map splice_of (take (c.loop-left.left - 1) c.args.step.now) in
    let now : c.in-Some.next ≡ next = omega (arith, c.in-Some.ensures.1, c.saturating_sub-kept.ensures, c.len.ensures, c.len-in-loop-left.ensures, s.new.ok.0, s.old.ok.0) in
    record {
      within = omega (arith, c.loop-left.invariant.within);
      most =
          ap (λ k. max k (most_back parts c.in-Some.next)) (c.max-most.ensures ∙ ap (max c.loop-left.most) now)
          ∙ (ap (λ k. max (max c.loop-left.most next) (most_back parts k)) now
          ∙ longest_so_far c.loop-left.most n next (most_back parts next) (most_back (map splice_of (take c.loop-left.left c.args.step.now)) n) (most_back (map splice_of c.args.step.now) c.args.size)
          (most_turn c.args.step.now c.loop-left.left s n c.loop-left-test.true c.loop-left.invariant.within c.index-step-left.is) (most_start parts next) c.loop-left.invariant.passed c.loop-left.invariant.most);
      passed = omega (arith, c.max-most.ensures);
    }
