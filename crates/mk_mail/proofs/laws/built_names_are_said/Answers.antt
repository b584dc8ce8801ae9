use Rattle.mk_mail.proofs.BuiltNames.{names_said}
use Rattle.mk_mail.proofs.laws.built_names_are_said.Goals as goal

pub returns : goal.returns
returns c = names_said
