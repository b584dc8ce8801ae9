use Rattle.std.proofs.Common.{rules, ◌≡◌, true, false, ◌+◌, drop, map, arith}
use Rattle.mk_build.proofs.Failing.{from_index}
use Rattle.mk_mail.specs.LetterViews.{pattern_of}
use Rattle.mk_line.specs.Kinds.{is_name}
use Rattle.mk_build.proofs.Failing.{all_hit, all_miss}
use Rattle.mk_mail.proofs.patterns.are_patterns.Goals as goal

pub returns-then-not-ok : goal.returns-then-not-ok
returns-then-not-ok c =
    let all = map pattern_of c.args.drops.now in
    let i = c.loop-pattern.pattern-index in
    let x = c.pattern-item.result in
    let is_none : is_name (pattern_of x).text ≡ false = first_of (cc (c.ok.ensures, c.if-not-ok.true), grind (arith, c.ok.ensures, c.if-not-ok.true), search rules) in
    all_miss (λ p. is_name p.text) (drop i all) all (drop (i + 1) all) (pattern_of x) (from_index pattern_of i c.args.drops.now x (omega (arith, c.loop-pattern-test.true)) c.pattern-item.is) is_none c.loop-pattern.invariant

pub loop-pattern-preserved : goal.loop-pattern-preserved
loop-pattern-preserved c =
    let all = map pattern_of c.args.drops.now in
    let i = c.loop-pattern.pattern-index in
    let x = c.pattern-item.result in
    let is_one : is_name (pattern_of x).text ≡ true = first_of (cc (c.ok.ensures, c.if-not-ok.false), grind (arith, c.ok.ensures, c.if-not-ok.false), search rules) in
    all_hit (λ p. is_name p.text) (drop i all) all (drop (i + 1) all) (pattern_of x) (from_index pattern_of i c.args.drops.now x (omega (arith, c.loop-pattern-test.true)) c.pattern-item.is) is_one c.loop-pattern.invariant
