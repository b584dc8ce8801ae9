use Rattle.std.proofs.Common.{refl}
use Rattle.mk_tree.proofs.PartsPlanned.{makes_part}
use Rattle.mk_tree.proofs.planning.plan_part.Goals as goal

pub overflow_sub-delimiter : goal.overflow_sub-delimiter
overflow_sub-delimiter c = c.after_first_line-part.ensures.less

pub returns : goal.returns
returns c =
    makes_part c.args.section.now c.args.left c.saturating_sub-left.result c.args.place c.after_parts.result _ c.parts_default.result c.args.text.now c.after_first_line-part.result.now c.in_ok-node.node
    c.after_parts.ensures c.in_ok-node.ensures c.saturating_sub-left.ensures c.parts_default.ensures c.after_first_line-part.ensures.lines refl
