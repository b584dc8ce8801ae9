use Rattle.std.proofs.Common.{sym, ◌∙◌, ◌+◌, drop, map, arith}
use Rattle.mk_build.proofs.Failing.{from_index}
use Rattle.mk_mail.specs.LetterViews.{pattern_of}
use Rattle.mk_mail.specs.Letters.{PlainPattern, is_meant}
use Rattle.mk_build.proofs.Failing.{any_hit, any_miss}
use Rattle.mk_mail.proofs.patterns.is_dropped.Goals as goal

pub returns-then-means : goal.returns-then-means
returns-then-means c =
    let all = map pattern_of c.args.drops.now in
    let i = c.loop-pattern.pattern-index in
    let x = c.pattern-item.result in
    any_hit (λ (p : PlainPattern). is_meant p c.args.own.now) (drop i all) all (drop (i + 1) all) (pattern_of x) (from_index pattern_of i c.args.drops.now x (omega (arith, c.loop-pattern-test.true)) c.pattern-item.is)
    (sym c.means.ensures ∙ c.if-means.true) c.loop-pattern.invariant

pub loop-pattern-preserved : goal.loop-pattern-preserved
loop-pattern-preserved c =
    let all = map pattern_of c.args.drops.now in
    let i = c.loop-pattern.pattern-index in
    let x = c.pattern-item.result in
    any_miss (λ (p : PlainPattern). is_meant p c.args.own.now) (drop i all) all (drop (i + 1) all) (pattern_of x) (from_index pattern_of i c.args.drops.now x (omega (arith, c.loop-pattern-test.true)) c.pattern-item.is)
    (sym c.means.ensures ∙ c.if-means.false) c.loop-pattern.invariant
