use Rattle.std.proofs.Common.{◌≡◌, ◌++◌, map, drop}
use Rattle.std.specs.List.{flat_map}
use Rattle.mk_build.specs.ForwardViews.{forwarded_of}
use Rattle.mk_build.specs.Forwards.{forwarded_part}
use Rattle.mk_build.specs.inner.PieceViews.{coded_segment}
use Rattle.mk_build.proofs.pieces.push_forwards.Given as goal

abbrev pub invariant-loop-forward : goal.invariant-loop-forward
invariant-loop-forward l =
    flat_map (coded_segment l.eol) l.list.items ++ flat_map (forwarded_part l.eol l.boundary) (drop l.forward-index (map forwarded_of l.messages))
    ≡ flat_map (coded_segment l.eol) l.fn.list.items ++ flat_map (forwarded_part l.eol l.boundary) (map forwarded_of l.messages)
