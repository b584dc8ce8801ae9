use Rattle.mk_code.proofs.LogicalLines.{crlf_found, crlf_unfound}
use Rattle.mk_code.proofs.qp_encoding.split_at_crlf.Goals as goal

pub returns-clause-lines : goal.returns-clause-lines
returns-clause-lines c = crlf_found c.args.bytes.now c.in_ok-at.at c.in_ok-at.ensures

pub returns-in_err-at-clause-lines : goal.returns-in_err-at-clause-lines
returns-in_err-at-clause-lines c = rw c.from_residual.ensures (crlf_unfound c.args.bytes.now c.in_err-at.ensures)
