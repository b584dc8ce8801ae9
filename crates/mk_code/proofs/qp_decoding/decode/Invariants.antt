use Rattle.std.proofs.Common.{◌≡◌, ◌++◌}
use Rattle.std.specs.List.{flat_map}
use Rattle.mk_line.specs.Lines.{cut}
use Rattle.mk_code.specs.QuotedPrintable.{line_unquoted}
use Rattle.mk_code.proofs.qp_decoding.decode.Given as goal

abbrev pub invariant-loop-line : goal.invariant-loop-line
invariant-loop-line l = l.out.items ++ flat_map line_unquoted l.line-iterator ≡ flat_map line_unquoted (cut l.text)
