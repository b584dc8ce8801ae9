use Rattle.std.proofs.Common.{◌≡◌, ◌≤◌, ℕ, List, None, Option, drop, length}
use Rattle.mk_script.specs.Targets.{parted_last}
use Rattle.mk_script.proofs.targets.parted_last.Given as goal

abbrev pub invariant-each : goal.invariant-each
invariant-each l = (l.end ≤ length l.text) × (parted_last l.separator (drop l.end l.text) ≡ None)

abbrev pub decreases-each : goal.decreases-each
decreases-each l = l.end
