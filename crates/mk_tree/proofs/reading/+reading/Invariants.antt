use Rattle.std.proofs.Common.{◌≡◌, ◌+◌, ◌*◌, ◌++◌, ◌∷◌, [], length, map}
use Rattle.mk_line.specs.Lines.{cut as lines_of}
use Rattle.mk_tree.specs.Nodes.{node_span}
use Rattle.mk_tree.specs.Steps.{boundaries_of}
use Rattle.mk_tree.proofs.PartsRead.{PartsRead}
use Rattle.mk_tree.proofs.reading.+reading.Given as goal

abbrev pub decreases-read_entity : goal.decreases-read_entity
decreases-read_entity l = 3 * l.left + 2

abbrev pub decreases-read_body : goal.decreases-read_body
decreases-read_body l = 3 * l.left + 1

abbrev pub decreases-read_parts : goal.decreases-read_parts
decreases-read_parts l = 3 * l.left + 3

abbrev pub invariant-read_parts-each : goal.invariant-read_parts-each
invariant-read_parts-each l = record {
  inside : boundaries_of l.inside.items ≡ boundaries_of l.opened ++ l.boundary ∷ [];
  parts : PartsRead l.left l.digest (boundaries_of l.opened) l.boundary (lines_of l.body) l.preamble (map node_span l.parts.items) (lines_of l.rest);
}

abbrev pub decreases-read_parts-each : goal.decreases-read_parts-each
decreases-read_parts-each l = length l.rest
