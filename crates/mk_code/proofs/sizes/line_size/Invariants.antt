use Rattle.std.proofs.Common.{◌≡◌, ◌≤◌, ◌+◌, length}
use Rattle.mk_line.specs.Marks.{trimmed}
use Rattle.mk_code.specs.QuotedPrintable.{unquoted}
use Rattle.mk_code.proofs.sizes.line_size.Given as goal

abbrev pub invariant-loop-front : goal.invariant-loop-front
invariant-loop-front l = record {
  size : l.size + length (unquoted l.ending l.rest) ≡ length (unquoted l.ending (trimmed l.content));
  few : l.size + length l.rest ≤ length l.content;
}

abbrev pub decreases-loop-front : goal.decreases-loop-front
decreases-loop-front l = length l.rest
