use Rattle.mk_expand.proofs.FieldsLeft.{puts_left}
use Rattle.mk_expand.proofs.laws.puts_leave_one.Goals as goal

pub returns : goal.returns
returns c = puts_left
