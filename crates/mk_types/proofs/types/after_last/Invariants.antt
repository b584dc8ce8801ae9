use Rattle.std.proofs.Common.{◌≡◌, length}
use Rattle.mk_script.specs.inner.Numbers.{pieces_of}
use Rattle.mk_pack.specs.Parts.{last_of}
use Rattle.mk_types.proofs.types.after_last.Given as goal

abbrev pub invariant-each : goal.invariant-each
invariant-each l = last_of (pieces_of l.separator l.last) ≡ last_of (pieces_of l.separator l.text)

abbrev pub decreases-each : goal.decreases-each
decreases-each l = length l.last
