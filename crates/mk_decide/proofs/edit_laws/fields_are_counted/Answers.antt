use Rattle.mk_decide.proofs.Counting.{counted_lem}
use Rattle.mk_decide.proofs.edit_laws.fields_are_counted.Goals as goal

pub returns : goal.returns
returns c = counted_lem
