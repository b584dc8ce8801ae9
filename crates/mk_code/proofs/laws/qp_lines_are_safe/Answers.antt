use Rattle.mk_code.proofs.QpSafe.{qp_safe}
use Rattle.mk_code.proofs.laws.qp_lines_are_safe.Goals as goal

pub returns : goal.returns
returns c = qp_safe
