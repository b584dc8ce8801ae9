use Rattle.mk_edit.proofs.GroupLaws.{in_turn_lem}
use Rattle.mk_edit.proofs.laws.edits_in_turn_are_groups.Goals as goal

pub returns : goal.returns
returns c = in_turn_lem
