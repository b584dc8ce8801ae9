use Rattle.std.proofs.Common.{length}
use Rattle.mk_run_tests.proofs.tests.shelf.append.Given as goal

abbrev pub decreases-each : goal.decreases-each
decreases-each l = length l.content.text
