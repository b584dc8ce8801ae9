use Rattle.std.proofs.Common.{◌≡◌, ◌+◌, ◌-◌, ◌∙◌, ap, arith, drop, length, map, max}
use Rattle.mk_splice.specs.Peaks.{most_forth}
use Rattle.mk_splice.specs.Views.{splice_of}
use Rattle.mk_splice.proofs.Splicings.{longest_so_far, most_next, most_start_forth, too_long}
use Rattle.mk_splice.proofs.peaks.peak_forth.Goals as goal

pub loop-splice-init : goal.loop-splice-init
loop-splice-init c =
    let starts = most_start_forth (map splice_of c.args.step.now) c.args.size in
    record { most = omega (arith, starts); passed = omega arith }

pub returns-in_default-clause-none : goal.returns-in_default-clause-none
returns-in_default-clause-none c =
    let s = c.splice-item.result in
    let n = c.loop-splice.now in
    let i = c.loop-splice.splice-index in
    let next = n - length s.old.items + length s.new.items in
    let parts = map splice_of (drop (i + 1) c.args.step.now) in
    too_long 18446744073709551616 c.loop-splice.most n next (most_forth parts next) (most_forth (map splice_of (drop i c.args.step.now)) n) (most_forth (map splice_of c.args.step.now) c.args.size)
    (most_next c.args.step.now i s n c.loop-splice-test.true c.splice-item.is) (most_start_forth parts next) c.loop-splice.invariant.most
    (omega (arith, c.in_default.ensures, c.saturating_sub-kept.ensures, c.len.ensures, c.len-in-loop-splice.ensures, s.new.ok.0, s.old.ok.0))

pub loop-splice-preserved : goal.loop-splice-preserved
loop-splice-preserved c =
    let s = c.splice-item.result in
    let n = c.loop-splice.now in
    let i = c.loop-splice.splice-index in
    let next = n - length s.old.items + length s.new.items in
    let parts = map splice_of (drop (i + 1) c.args.step.now) in
    let now : c.in-Some.next ≡ next = omega (arith, c.in-Some.ensures.1, c.saturating_sub-kept.ensures, c.len.ensures, c.len-in-loop-splice.ensures, s.new.ok.0, s.old.ok.0) in
    record {
      most =
          ap (λ k. max k (most_forth parts c.in-Some.next)) (c.max-most.ensures ∙ ap (max c.loop-splice.most) now)
          ∙ (ap (λ k. max (max c.loop-splice.most next) (most_forth parts k)) now
          ∙ longest_so_far c.loop-splice.most n next (most_forth parts next) (most_forth (map splice_of (drop i c.args.step.now)) n) (most_forth (map splice_of c.args.step.now) c.args.size)
          (most_next c.args.step.now i s n c.loop-splice-test.true c.splice-item.is) (most_start_forth parts next) c.loop-splice.invariant.passed c.loop-splice.invariant.most);
      passed = omega (arith, c.max-most.ensures);
    }
