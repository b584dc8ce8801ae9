use Rattle.std.proofs.Common.{length, arith, ap}
use Rattle.mk_decide.proofs.Gaps.{preamble_within, print_apart, first_gap}
use Rattle.mk_decide.proofs.part_edits.gap.Goals as goal

pub overflow_sub-following : goal.overflow_sub-following
overflow_sub-following c = omega (arith, preamble_within c.args.section.now.entity, ap length c.preamble.ensures, ap length c.body.ensures)

pub overflow_sub-result : goal.overflow_sub-result
overflow_sub-result c = omega (arith, print_apart c.args.section.now.entity, ap length c.body.ensures, c.end.ensures)

pub returns-then-place-eq0 : goal.returns-then-place-eq0
returns-then-place-eq0 c = first_gap c.args.place c.args.section.now c.end.result c.body.result.now c.preamble.result.now c.if-place-eq0.true c.end.ensures c.body.ensures c.preamble.ensures
