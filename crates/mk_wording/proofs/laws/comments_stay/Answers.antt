use Rattle.mk_wording.proofs.WordedAs.{comments_stay}
use Rattle.mk_wording.proofs.laws.comments_stay.Goals as goal

pub returns : goal.returns
returns c = comments_stay
