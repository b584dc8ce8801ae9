use Rattle.mk_edit.proofs.GroupLaws.{first_texts_stay_lem}
use Rattle.mk_edit.proofs.laws.first_texts_stay.Goals as goal

pub returns : goal.returns
returns c = first_texts_stay_lem
