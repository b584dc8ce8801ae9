use Rattle.std.proofs.Common.{sym, ◌∙◌, ◌+◌, drop, map, arith}
use Rattle.mk_build.proofs.Failing.{all_hit, all_miss, from_index}
use Rattle.mk_build.specs.ForwardViews.{forwarded_of}
use Rattle.mk_build.specs.Forwards.{Forwarded, is_clear}
use Rattle.mk_pack.proofs.boundaries.are_clear.Goals as goal

pub returns-then-not-is_clear_of : goal.returns-then-not-is_clear_of
returns-then-not-is_clear_of c =
    let all = map forwarded_of c.args.messages.now in
    let i = c.loop-forward.forward-index in
    let x = c.forward-item.result in
    all_miss (λ (f : Forwarded). is_clear c.args.boundary.now f.text) (drop i all) all (drop (i + 1) all) (forwarded_of x) (from_index forwarded_of i c.args.messages.now x (omega (arith, c.loop-forward-test.true)) c.forward-item.is)
    (sym c.is_clear_of.ensures ∙ c.if-not-is_clear_of.true) c.loop-forward.invariant

pub loop-forward-preserved : goal.loop-forward-preserved
loop-forward-preserved c =
    let all = map forwarded_of c.args.messages.now in
    let i = c.loop-forward.forward-index in
    let x = c.forward-item.result in
    all_hit (λ (f : Forwarded). is_clear c.args.boundary.now f.text) (drop i all) all (drop (i + 1) all) (forwarded_of x) (from_index forwarded_of i c.args.messages.now x (omega (arith, c.loop-forward-test.true)) c.forward-item.is)
    (sym c.is_clear_of.ensures ∙ c.if-not-is_clear_of.false) c.loop-forward.invariant
