use Rattle.mk_expand.proofs.FieldsLeft.{drops_left}
use Rattle.mk_expand.proofs.laws.drops_leave_none.Goals as goal

pub returns : goal.returns
returns c = drops_left
