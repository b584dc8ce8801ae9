use Rattle.mk_pack.proofs.FreeBoundaries.{free_own}
use Rattle.mk_pack.proofs.laws.free_boundaries_are_own.Goals as goal

pub returns : goal.returns
returns c fields parts = free_own fields parts
