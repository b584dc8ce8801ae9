use Rattle.std.proofs.Common.{arith}
use Rattle.mk_tree.proofs.PartsPlanned.{at_part, makes_removal}
use Rattle.mk_tree.proofs.planning.plan_removal.Goals as goal

pub overflow_sub-result : goal.overflow_sub-result
overflow_sub-result c =
    let a = at_part c.args.section.now c.args.number c.after_parts-place.result c.after_parts.result c.requires.0 c.requires.1 c.after_parts-place.ensures c.after_parts.ensures in
    omega (arith, a.ends)

pub returns : goal.returns
returns c = λ left. makes_removal c.args.section.now left c.args.number c.after_parts-place.result c.after_parts.result c.after_parts-place.ensures c.after_parts.ensures
