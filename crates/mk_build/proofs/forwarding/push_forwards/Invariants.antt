use Rattle.std.proofs.Common.{◌≡◌, ◌++◌, map, drop}
use Rattle.std.specs.List.{flat_map}
use Rattle.mk_build.specs.ForwardViews.{forwarded_of}
use Rattle.mk_build.specs.Forwards.{forwarded_part}
use Rattle.mk_build.proofs.forwarding.push_forwards.Given as goal

abbrev pub invariant-loop-forward : goal.invariant-loop-forward
invariant-loop-forward l = l.text.items ++ flat_map (forwarded_part l.eol l.boundary) (drop l.forward-index (map forwarded_of l.messages)) ≡ l.fn.text.items ++ flat_map (forwarded_part l.eol l.boundary) (map forwarded_of l.messages)
