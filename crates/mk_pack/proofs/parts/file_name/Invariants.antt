use Rattle.std.proofs.Common.{◌≡◌, length}
use Rattle.mk_line.specs.Ascii.{slash}
use Rattle.mk_script.specs.inner.Numbers.{pieces_of}
use Rattle.mk_pack.specs.Parts.{last_of}
use Rattle.mk_pack.proofs.parts.file_name.Given as goal

abbrev pub invariant-each : goal.invariant-each
invariant-each l = last_of (pieces_of slash l.name) ≡ last_of (pieces_of slash l.path)

abbrev pub decreases-each : goal.decreases-each
decreases-each l = length l.name
