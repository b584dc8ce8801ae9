use Rattle.mk_code.proofs.LogicalLines.{logical_missing, lf_split}
use Rattle.mk_code.proofs.qp_encoding.split_line.Goals as goal

pub returns-in-Lf-clause-lines : goal.returns-in-Lf-clause-lines
returns-in-Lf-clause-lines c = rw c.in-Lf.is (lf_split c.args.bytes.now c.split_at_first.result c.split_at_first.ensures.parts c.split_at_first.ensures.first)

pub returns-in-Missing-clause-lines : goal.returns-in-Missing-clause-lines
returns-in-Missing-clause-lines c = rw c.in-Missing.is (logical_missing c.args.bytes.now)
