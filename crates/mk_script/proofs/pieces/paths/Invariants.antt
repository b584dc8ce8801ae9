use Rattle.std.proofs.Common.{◌≡◌, length}
use Rattle.mk_line.specs.Ascii.{space}
use Rattle.mk_script.specs.Paths.{path_of, read_each}
use Rattle.mk_script.specs.inner.Numbers.{pieces_of}
use Rattle.mk_script.specs.ScriptViews.{items_of}
use Rattle.mk_script.proofs.PathLemmas.{paths_onto}
use Rattle.mk_script.proofs.pieces.paths.Given as goal

abbrev pub invariant-each : goal.invariant-each
invariant-each l = paths_onto (items_of l.all.items) (read_each path_of (pieces_of space l.rest)) ≡ read_each path_of (pieces_of space l.text)

abbrev pub decreases-each : goal.decreases-each
decreases-each l = length l.rest
