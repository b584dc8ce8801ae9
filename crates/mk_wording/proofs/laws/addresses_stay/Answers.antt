use Rattle.mk_wording.proofs.WordedAs.{addresses_stay}
use Rattle.mk_wording.proofs.laws.addresses_stay.Goals as goal

pub returns : goal.returns
returns c = addresses_stay
