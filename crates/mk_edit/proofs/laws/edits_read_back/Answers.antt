use Rattle.mk_decide.proofs.EditsLead.{edits_read_back_lem}
use Rattle.mk_edit.proofs.laws.edits_read_back.Goals as goal

pub returns : goal.returns
returns c = edits_read_back_lem
