use Rattle.mk_decide.proofs.PlacesAgain.{section_there}
use Rattle.mk_decide.proofs.edit_laws.paths_lead_to_sections.Goals as goal

pub returns : goal.returns
returns c = section_there
