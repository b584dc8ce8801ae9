use Rattle.mk_wording.proofs.WordedAs.{parameters_stay}
use Rattle.mk_wording.proofs.laws.parameters_stay.Goals as goal

pub returns : goal.returns
returns c = parameters_stay
