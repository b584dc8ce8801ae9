use Rattle.std.proofs.Common.{ap, sym, ◌∙◌, ◌+◌, map, drop, arith, not}
use Rattle.std.specs.List.{position}
use Rattle.mk_build.specs.Forwards.{is_clear}
use Rattle.mk_build.specs.ForwardViews.{forwarded_of}
use Rattle.mk_build.proofs.Failing.{passes, fails, from_index}
use Rattle.mk_build.proofs.forwarding.first_holding.Goals as goal

pub loop-index-preserved : goal.loop-index-preserved
loop-index-preserved c =
    let xs = c.args.messages.now in
    let b = c.args.boundary.now in
    let i = c.loop-index.index in
    let x = c.index-messages-index.result in
    passes (λ f. not (is_clear b f.text)) i (drop i (map forwarded_of xs)) (drop (i + 1) (map forwarded_of xs)) _ (position (λ f. not (is_clear b f.text)) (map forwarded_of xs)) (from_index forwarded_of i xs x (omega (arith, c.loop-index-test.true)) c.index-messages-index.is) (ap not (sym c.is_clear_of.ensures ∙ c.if-not-is_clear_of.false)) c.loop-index.invariant

pub returns-then-not-is_clear_of : goal.returns-then-not-is_clear_of
returns-then-not-is_clear_of c =
    let xs = c.args.messages.now in
    let b = c.args.boundary.now in
    let i = c.loop-index.index in
    let x = c.index-messages-index.result in
    fails (λ f. not (is_clear b f.text)) i (drop i (map forwarded_of xs)) (drop (i + 1) (map forwarded_of xs)) _ (position (λ f. not (is_clear b f.text)) (map forwarded_of xs)) (from_index forwarded_of i xs x (omega (arith, c.loop-index-test.true)) c.index-messages-index.is) (ap not (sym c.is_clear_of.ensures ∙ c.if-not-is_clear_of.true)) c.loop-index.invariant
