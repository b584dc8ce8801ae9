use Rattle.mk_code.proofs.WordsBack.{words_back}
use Rattle.mk_code.proofs.laws.words_round_trip.Goals as goal

pub returns : goal.returns
returns c = words_back
