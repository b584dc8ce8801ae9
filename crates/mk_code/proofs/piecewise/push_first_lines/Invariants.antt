use Rattle.std.proofs.Common.{length}
use Rattle.mk_code.proofs.PieceLines.{IsLined}
use Rattle.mk_code.proofs.piecewise.push_first_lines.Given as goal

abbrev pub invariant-each : goal.invariant-each
invariant-each l = IsLined l.text l.rest l.bytes.items

abbrev pub decreases-each : goal.decreases-each
decreases-each l = length l.rest
