use Rattle.std.proofs.Common.{ap, sym, ◌∙◌, ◌+◌, drop, map, arith}
use Rattle.mk_build.proofs.Failing.{any_hit, any_miss, from_index}
use Rattle.mk_build.specs.ForwardViews.{forwarded_of}
use Rattle.mk_build.specs.Forwards.{Forwarded, is_8bit}
use Rattle.mk_build.proofs.forwarding.are_8bit.Goals as goal

pub returns-then-is_8bit : goal.returns-then-is_8bit
returns-then-is_8bit c =
    let all = map forwarded_of c.args.messages.now in
    let i = c.loop-forward.forward-index in
    let x = c.forward-item.result in
    any_hit (λ (f : Forwarded). is_8bit f.text) (drop i all) all (drop (i + 1) all) (forwarded_of x) (from_index forwarded_of i c.args.messages.now x (omega (arith, c.loop-forward-test.true)) c.forward-item.is)
    (ap is_8bit (sym c.message.ensures) ∙ (sym c.is_8bit.ensures ∙ c.if-is_8bit.true)) c.loop-forward.invariant

pub loop-forward-preserved : goal.loop-forward-preserved
loop-forward-preserved c =
    let all = map forwarded_of c.args.messages.now in
    let i = c.loop-forward.forward-index in
    let x = c.forward-item.result in
    any_miss (λ (f : Forwarded). is_8bit f.text) (drop i all) all (drop (i + 1) all) (forwarded_of x) (from_index forwarded_of i c.args.messages.now x (omega (arith, c.loop-forward-test.true)) c.forward-item.is)
    (ap is_8bit (sym c.message.ensures) ∙ (sym c.is_8bit.ensures ∙ c.if-is_8bit.false)) c.loop-forward.invariant
