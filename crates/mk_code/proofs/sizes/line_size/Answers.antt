use Rattle.std.proofs.Common.{◌≢◌, ◌∷◌, ◌∙◌, ap, sym, length, length-append, length-drop, arith}
use Rattle.std.proofs.lemmas.Bool.{eqb-true, eqb-false}
use Rattle.std.proofs.lemmas.List.{take_rest}
use Rattle.mk_code.specs.QuotedPrintable.{unquoted}
use Rattle.mk_code.proofs.QpSizes.{size_soft, size_pair, size_lone, size_last, trimmed_short}
use Rattle.mk_code.proofs.sizes.line_size.Goals as goal

pub loop-front-init : goal.loop-front-init
loop-front-init c = record {
  size = omega (arith, ap (λ xs. length (unquoted c.args.ending.now xs)) c.trimmed-rest.ensures);
  few = omega (arith, ap length c.trimmed-rest.ensures, trimmed_short c.args.content.now);
}

pub returns-then-is_empty-clause-size : goal.returns-then-is_empty-clause-size
returns-then-is_empty-clause-size c =
    let last = size_soft c.args.ending.now c.loop-front.rest.now c.in-Some.front.now c.in-Some.following.now c.in-Some.ensures.parts c.in-Some.ensures.first (eqb-true (length c.in-Some.following.now) 0 (sym c.is_empty.ensures ∙ c.if-is_empty.true)) in
    omega (arith, last, c.loop-front.invariant.size)

pub loop-front-preserved-in-Some-pair : goal.loop-front-preserved-in-Some-pair
loop-front-preserved-in-Some-pair c =
    let next = size_pair c.args.ending.now c.loop-front.rest.now c.in-Some.front.now c.in-Some.following.now c.in-Some-pair.field-0 c.in-Some.ensures.parts c.in-Some.ensures.first c.in-Some-pair.ensures.value in
    let whole = ap length c.in-Some.ensures.parts ∙ length-append c.in-Some.front.now (61 ∷ c.in-Some.following.now) in
    let left = ap length (take_rest c.in-Some.following.now 2) ∙ length-drop 2 c.in-Some.following.now in
    record {
      size = omega (arith, next, c.loop-front.invariant.size);
      few = omega (arith, whole, left, c.loop-front.invariant.few);
    }

pub loop-front-preserved : goal.loop-front-preserved
loop-front-preserved c =
    let some : length c.in-Some.following.now ≢ 0 = eqb-false (length c.in-Some.following.now) 0 (sym c.is_empty.ensures ∙ c.if-is_empty.false) in
    let next = size_lone c.args.ending.now c.loop-front.rest.now c.in-Some.front.now c.in-Some.following.now c.in-Some.ensures.parts c.in-Some.ensures.first (omega arith) c.in-None.ensures.value in
    let whole = ap length c.in-Some.ensures.parts ∙ length-append c.in-Some.front.now (61 ∷ c.in-Some.following.now) in
    record {
      size = omega (arith, next, c.loop-front.invariant.size);
      few = omega (arith, whole, c.loop-front.invariant.few);
    }

pub returns-clause-size : goal.returns-clause-size
returns-clause-size c =
    let last = size_last c.args.ending.now c.loop-front.rest.now c.in_default.ensures.parts in
    omega (arith, last, c.loop-front.invariant.size)
