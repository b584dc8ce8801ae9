use Rattle.mk_run.proofs.PackedNames.{packed_says}
use Rattle.mk_run.proofs.laws.packed_names_are_said.Goals as goal

pub returns : goal.returns
returns c = packed_says
