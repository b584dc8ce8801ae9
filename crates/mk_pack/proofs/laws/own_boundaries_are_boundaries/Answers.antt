use Rattle.mk_pack.proofs.OwnBoundaries.{own_is_boundary}
use Rattle.mk_pack.proofs.laws.own_boundaries_are_boundaries.Goals as goal

pub returns : goal.returns
returns c fields parts = own_is_boundary fields parts
