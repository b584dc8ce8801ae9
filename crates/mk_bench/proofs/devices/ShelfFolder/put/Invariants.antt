use Rattle.std.proofs.Common.{length}
use Rattle.mk_bench.proofs.devices.ShelfFolder.put.Given as goal

abbrev pub decreases-each : goal.decreases-each
decreases-each l = length l.content.text
