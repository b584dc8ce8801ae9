use Rattle.mk_decide.proofs.EditsLead.{splices_lead_lem}
use Rattle.mk_edit.proofs.laws.splices_lead.Goals as goal

pub returns : goal.returns
returns c = splices_lead_lem
