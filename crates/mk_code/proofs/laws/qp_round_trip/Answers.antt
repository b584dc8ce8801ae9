use Rattle.std.proofs.Common.{sym}
use Rattle.mk_code.proofs.QpBack.{qp_back}
use Rattle.mk_code.proofs.laws.qp_round_trip.Goals as goal

pub returns : goal.returns
returns c eol bytes is small = sym (qp_back eol bytes is small)
