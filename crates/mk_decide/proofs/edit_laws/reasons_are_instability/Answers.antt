use Rattle.mk_decide.proofs.Late.{stability_reasons_lem}
use Rattle.mk_decide.proofs.edit_laws.reasons_are_instability.Goals as goal

pub returns : goal.returns
returns c = stability_reasons_lem
