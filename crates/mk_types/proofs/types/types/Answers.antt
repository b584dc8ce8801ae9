use Rattle.std.proofs.Common.{refl}
use Rattle.mk_types.proofs.types.types.Goals as goal

pub returns : goal.returns
returns c = refl
