use Rattle.std.proofs.Common.{◌≡◌, length}
use Rattle.mk_script.specs.Paths.{number_of, read_each}
use Rattle.mk_script.specs.inner.Numbers.{pieces_of}
use Rattle.mk_line.specs.Ascii.{full_stop}
use Rattle.mk_script.proofs.PathLemmas.{numbers_onto}
use Rattle.mk_script.proofs.paths.numbers.Given as goal

abbrev pub invariant-each : goal.invariant-each
invariant-each l = numbers_onto l.numbers.items (read_each number_of (pieces_of full_stop l.rest)) ≡ read_each number_of (pieces_of full_stop l.text)

abbrev pub decreases-each : goal.decreases-each
decreases-each l = length l.rest
