use Rattle.mk_edit.proofs.GroupFacts.{groups_lead_lem}
use Rattle.mk_edit.proofs.laws.groups_lead.Goals as goal

pub returns : goal.returns
returns c = groups_lead_lem
