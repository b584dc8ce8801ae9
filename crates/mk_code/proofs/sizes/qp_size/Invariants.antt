use Rattle.std.proofs.Common.{◌≡◌, ◌≤◌, ◌+◌, length}
use Rattle.std.specs.List.{flat_map}
use Rattle.mk_line.specs.Lines.{cut, text_of}
use Rattle.mk_code.specs.QuotedPrintable.{line_unquoted}
use Rattle.mk_code.proofs.sizes.qp_size.Given as goal

abbrev pub invariant-loop-line : goal.invariant-loop-line
invariant-loop-line l = record {
  size : l.size + length (flat_map line_unquoted l.line-iterator) ≡ length (flat_map line_unquoted (cut l.text));
  few : l.size + length (text_of l.line-iterator) ≤ length l.text;
}
