use Rattle.mk_run.proofs.Attachments.{names_said}
use Rattle.mk_run.proofs.laws.attached_names_are_said.Goals as goal

pub returns : goal.returns
returns c = names_said
