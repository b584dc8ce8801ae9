use Rattle.std.proofs.Common.{◌≡◌, ◌-◌, map}
use Rattle.mk_build.specs.ForwardViews.{forwarded_of}
use Rattle.mk_pack.specs.FreeBoundary.{last_number}
use Rattle.mk_pack.proofs.FreeBoundaries.{free_from}
use Rattle.mk_pack.proofs.boundaries.free_boundary.Given as goal

abbrev pub invariant-loop-number : goal.invariant-loop-number
invariant-loop-number l = free_from l.first.items (map forwarded_of l.messages) (last_number - l.number) l.number ≡ free_from l.first.items (map forwarded_of l.messages) last_number 0
