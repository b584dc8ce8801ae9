use Rattle.std.proofs.Common.{length}
use Rattle.mk_system.proofs.folder.write_pieces.Given as goal

abbrev pub decreases-each : goal.decreases-each
decreases-each l = length l.content.text
