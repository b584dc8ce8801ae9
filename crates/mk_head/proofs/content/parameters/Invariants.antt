use Rattle.std.proofs.Common.{◌≡◌, ◌++◌, length, map}
use Rattle.mk_head.specs.Values.{parameters}
use Rattle.mk_head.specs.Depths.{pieces_after}
use Rattle.mk_head.specs.ValueViews.{parameter_of}
use Rattle.mk_head.proofs.content.parameters.Given as goal

abbrev pub invariant-each : goal.invariant-each
invariant-each l = map parameter_of l.params.items ++ parameters (pieces_after l.rest) ≡ parameters (pieces_after l.text)

abbrev pub decreases-each : goal.decreases-each
decreases-each l = length l.rest
