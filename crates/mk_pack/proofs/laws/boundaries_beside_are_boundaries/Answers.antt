use Rattle.mk_pack.proofs.OwnBoundaries.{beside_is_boundary}
use Rattle.mk_pack.proofs.laws.boundaries_beside_are_boundaries.Goals as goal

pub returns : goal.returns
returns c section part = beside_is_boundary section part
