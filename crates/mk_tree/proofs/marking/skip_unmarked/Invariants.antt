use Rattle.std.proofs.Common.{◌≡◌, ◌+◌, length}
use Rattle.mk_line.specs.Lines.{cut as lines_of}
use Rattle.mk_tree.specs.Upto.{upto, beyond}
use Rattle.mk_tree.specs.Spans.{size}
use Rattle.mk_tree.specs.Steps.{boundaries_of}
use Rattle.mk_tree.proofs.marking.skip_unmarked.Given as goal

abbrev pub invariant-each : goal.invariant-each
invariant-each l =
    let bs = boundaries_of l.opened in
    record {
      front : size (upto bs (lines_of l.text)) + length l.rest ≡ length l.text + size (upto bs (lines_of l.rest));
      rest : beyond bs (lines_of l.text) ≡ beyond bs (lines_of l.rest);
    }

abbrev pub decreases-each : goal.decreases-each
decreases-each l = length l.rest
