use Rattle.std.proofs.Common.{length}
use Rattle.mk_show.proofs.SentPieces.{IsHalfGathered}
use Rattle.mk_show.proofs.contents.Content.read_all.Given as goal

abbrev pub invariant-each : goal.invariant-each
invariant-each l = IsHalfGathered l.fn.self l.self l.all.items

abbrev pub decreases-each : goal.decreases-each
decreases-each l = length l.self.text
