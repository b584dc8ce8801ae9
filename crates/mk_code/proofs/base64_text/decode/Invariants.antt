use Rattle.std.proofs.Common.{length}
use Rattle.mk_code.proofs.Base64Blocks.{IsUnderWay}
use Rattle.mk_code.proofs.base64_text.decode.Given as goal

abbrev pub invariant-each : goal.invariant-each
invariant-each l = IsUnderWay l.text l.out.items l.found.items l.rest

abbrev pub decreases-each : goal.decreases-each
decreases-each l = length l.rest
