use Rattle.mk_pack.proofs.FreeBoundaries.{free_is_boundary}
use Rattle.mk_pack.proofs.laws.free_boundaries_are_boundaries.Goals as goal

pub returns : goal.returns
returns c fields parts messages = free_is_boundary fields parts messages
