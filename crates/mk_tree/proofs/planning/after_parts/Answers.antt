use Rattle.std.proofs.Common.{arith, ap, length}
use Rattle.mk_tree.proofs.Planned.{after_some, after_none, body_within, preamble_in_body}
use Rattle.mk_tree.proofs.planning.after_parts.Goals as goal

pub overflow_sub-result : goal.overflow_sub-result
overflow_sub-result c = omega (arith, ap length c.body.ensures, ap length c.preamble.ensures, preamble_in_body c.args.section.now.entity)

pub overflow_sub-result-in-None : goal.overflow_sub-result-in-None
overflow_sub-result-in-None c = omega (arith, ap length c.body.ensures, c.end-in-None.ensures, body_within c.args.section.now.entity)

pub returns-in-Some : goal.returns-in-Some
returns-in-Some c = after_some c.args.section.now c.args.count c.child.result c.in-Some.part c.end.result c.child.ensures c.in-Some.is c.end.ensures

pub returns-in-None : goal.returns-in-None
returns-in-None c =
    after_none c.args.section.now c.args.count c.child.result _ c.child.ensures c.in-None.is
    (omega (arith, c.end-in-None.ensures, ap length c.body.ensures, ap length c.preamble.ensures, body_within c.args.section.now.entity, preamble_in_body c.args.section.now.entity))
