use Rattle.std.proofs.Common.{◌≡◌, map, drop}
use Rattle.mk_build.specs.ForwardViews.{forwarded_of}
use Rattle.mk_pack.specs.FreeBoundary.{are_clear}
use Rattle.mk_pack.proofs.boundaries.are_clear.Given as goal

abbrev pub invariant-loop-forward : goal.invariant-loop-forward
invariant-loop-forward l = are_clear l.boundary (drop l.forward-index (map forwarded_of l.messages)) ≡ are_clear l.boundary (map forwarded_of l.messages)
