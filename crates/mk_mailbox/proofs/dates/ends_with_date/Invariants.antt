use Rattle.std.proofs.Common.{◌≡◌, length}
use Rattle.mk_mailbox.specs.Dates.{ends_with_date}
use Rattle.mk_mailbox.proofs.dates.ends_with_date.Given as goal

abbrev pub invariant-each : goal.invariant-each
invariant-each l = ends_with_date l.rest ≡ ends_with_date l.content

abbrev pub decreases-each : goal.decreases-each
decreases-each l = length l.rest
