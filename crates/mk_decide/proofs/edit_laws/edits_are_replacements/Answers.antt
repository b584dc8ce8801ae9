use Rattle.mk_decide.proofs.Replacing.{replacements_lem}
use Rattle.mk_decide.proofs.edit_laws.edits_are_replacements.Goals as goal

pub returns : goal.returns
returns c = replacements_lem
