use Rattle.std.proofs.Common.{sym, ◌∙◌, refl, arith}
use Rattle.mk_code.proofs.Base64Sizes.{none_found, size_found, none_encoded}
use Rattle.mk_code.proofs.sizes.base64_size.Goals as goal

pub returns-in_default : goal.returns-in_default
returns-in_default c = none_found c.args.text.now c.before_equals-front.result.now c.before_equals-front.ensures c.in_default.ensures

pub returns-then-ends_well : goal.returns-then-ends_well
returns-then-ends_well c =
    size_found c.args.text.now c.before_equals-front.result.now c.in-Some.ensures.0 c.in-Some.last c.count_of-count.result _ _ c.before_equals-front.ensures c.in-Some.ensures.1 c.count_of-count.ensures.count refl
    (omega arith) (sym c.ends_well.ensures ∙ c.if-ends_well.true)

pub returns-else-ends_well : goal.returns-else-ends_well
returns-else-ends_well c =
    none_encoded c.args.text.now c.before_equals-front.result.now c.in-Some.ensures.0 c.in-Some.last c.count_of-count.result _ c.before_equals-front.ensures c.in-Some.ensures.1 c.count_of-count.ensures.count refl
    (sym c.ends_well.ensures ∙ c.if-ends_well.false)
