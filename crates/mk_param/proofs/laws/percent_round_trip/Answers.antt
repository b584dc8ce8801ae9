use Rattle.mk_param.proofs.Percents.{percent_back}
use Rattle.mk_param.proofs.laws.percent_round_trip.Goals as goal

pub returns : goal.returns
returns c = percent_back
