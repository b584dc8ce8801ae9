use Rattle.mk_edit.proofs.GroupFacts.{groups_read_back_lem}
use Rattle.mk_edit.proofs.laws.groups_read_back.Goals as goal

pub returns : goal.returns
returns c = groups_read_back_lem
