use Rattle.mk_pack.proofs.FreeLines.{free_is_free}
use Rattle.mk_pack.proofs.laws.free_boundaries_are_free.Goals as goal

pub returns : goal.returns
returns c fields parts messages less = free_is_free fields parts messages less
