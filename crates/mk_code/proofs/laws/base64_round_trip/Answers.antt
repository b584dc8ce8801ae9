use Rattle.mk_code.proofs.Base64Laws.{base64_back}
use Rattle.mk_code.proofs.laws.base64_round_trip.Goals as goal

pub returns : goal.returns
returns c = base64_back
