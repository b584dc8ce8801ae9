use Rattle.std.proofs.Common.{◌≢◌, ◌∙◌, sym, length, arith}
use Rattle.std.proofs.lemmas.Bool.{eqb-true, eqb-false}
use Rattle.mk_code.proofs.Unquoting.{step_soft, step_pair, step_lone, step_last}
use Rattle.mk_code.proofs.qp_decoding.push_line.Goals as goal

pub returns-then-is_empty : goal.returns-then-is_empty
returns-then-is_empty c =
    step_soft c.args.ending.now c.loop-front.rest.now c.loop-front.out.items _ c.in-Some.front.now c.in-Some.following.now c.in-Some.ensures.parts c.in-Some.ensures.first
    c.in_ok-extend_from_slice.ensures.items (eqb-true (length c.in-Some.following.now) 0 (sym c.is_empty.ensures ∙ c.if-is_empty.true))
    ∙ c.loop-front.invariant

pub loop-front-preserved-in-Some-pair : goal.loop-front-preserved-in-Some-pair
loop-front-preserved-in-Some-pair c =
    step_pair c.args.ending.now c.loop-front.rest.now c.loop-front.out.items _ _ c.in-Some.front.now c.in-Some.following.now c.in-Some-pair.byte c.in-Some.ensures.parts c.in-Some.ensures.first
    c.in_ok-extend_from_slice.ensures.items c.in-Some-pair.ensures.value c.in_ok-push-in-Some-pair.ensures.items
    ∙ c.loop-front.invariant

pub loop-front-preserved : goal.loop-front-preserved
loop-front-preserved c =
    let some : length c.in-Some.following.now ≢ 0 = eqb-false (length c.in-Some.following.now) 0 (sym c.is_empty.ensures ∙ c.if-is_empty.false) in
    step_lone c.args.ending.now c.loop-front.rest.now c.loop-front.out.items _ _ c.in-Some.front.now c.in-Some.following.now c.in-Some.ensures.parts c.in-Some.ensures.first
    c.in_ok-extend_from_slice.ensures.items (omega arith) c.in-None.ensures.value c.in_ok-push-in-None.ensures.items
    ∙ c.loop-front.invariant

pub returns : goal.returns
returns c =
    step_last c.args.ending.now c.loop-front.rest.now c.loop-front.out.items _ _ c.in_default.ensures.parts c.in_ok-extend_from_slice-2.ensures.items c.in_ok-extend_from_slice-3.ensures.items
    ∙ c.loop-front.invariant
