use Rattle.mk_each.proofs.EditedApart.{edited_apart}
use Rattle.mk_each.proofs.laws.edited_stay_apart.Goals as goal

pub returns : goal.returns
returns c = edited_apart
