use Rattle.std.proofs.Common.{◌≡◌, length}
use Rattle.mk_script.specs.Endings.{without_returns}
use Rattle.mk_script.proofs.endings.without_returns.Given as goal

abbrev pub invariant-each : goal.invariant-each
invariant-each l = without_returns l.kept ≡ without_returns l.bytes

abbrev pub decreases-each : goal.decreases-each
decreases-each l = length l.kept
