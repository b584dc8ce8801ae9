use Rattle.std.proofs.Common.{ap, length}
use Rattle.mk_decide.proofs.LineLooks.{separator_by_size, fields_within}
use Rattle.mk_decide.proofs.looking.has_separator.Goals as goal

pub overflow_sub-result : goal.overflow_sub-result
overflow_sub-result c = fields_within c.args.section.now.entity (length c.raw.result.now) (length c.head.result.now) (ap length c.raw.ensures) (ap length c.head.ensures)

pub returns : goal.returns
returns c = separator_by_size c.args.section.now.entity (length c.raw.result.now) (length c.head.result.now) (length c.body.result.now) (ap length c.raw.ensures) (ap length c.head.ensures) (ap length c.body.ensures)
