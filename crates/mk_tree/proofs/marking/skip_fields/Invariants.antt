use Rattle.std.proofs.Common.{◌≡◌, ◌+◌, false, length}
use Rattle.mk_line.specs.Lines.{cut as lines_of}
use Rattle.mk_tree.specs.Upto.{fields_until, rest_until}
use Rattle.mk_tree.specs.Spans.{size}
use Rattle.mk_tree.specs.Steps.{boundaries_of}
use Rattle.mk_tree.proofs.marking.skip_fields.Given as goal

abbrev pub invariant-each : goal.invariant-each
invariant-each l =
    let bs = boundaries_of l.opened in
    record {
      size : size (fields_until bs false (lines_of l.text)) + length l.rest ≡ length l.text + size (fields_until bs false (lines_of l.rest));
      rest : rest_until bs false (lines_of l.text) ≡ rest_until bs false (lines_of l.rest);
    }

abbrev pub decreases-each : goal.decreases-each
decreases-each l = length l.rest
