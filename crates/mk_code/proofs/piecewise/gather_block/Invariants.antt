use Rattle.std.proofs.Common.{length}
use Rattle.mk_code.proofs.PieceLetters.{Gathers}
use Rattle.mk_code.proofs.piecewise.gather_block.Given as goal

abbrev pub invariant-each : goal.invariant-each
invariant-each l = Gathers l.text l.found.items l.rest

abbrev pub decreases-each : goal.decreases-each
decreases-each l = length l.rest
