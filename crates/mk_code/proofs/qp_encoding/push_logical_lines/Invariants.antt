use Rattle.std.proofs.Common.{◌≡◌, ◌++◌, length}
use Rattle.mk_line.specs.inner.Kept.{IsKept}
use Rattle.mk_code.specs.QuotedPrintable.{qp_encoded}
use Rattle.mk_code.proofs.qp_encoding.push_logical_lines.Given as goal

abbrev pub invariant-loop-line : goal.invariant-loop-line
invariant-loop-line l = record {
  told : l.text.items ++ qp_encoded l.eol l.rest ≡ l.fn.text.items ++ qp_encoded l.eol l.bytes;
  kept : IsKept l.fn.text.items l.text.items;
}

abbrev pub decreases-loop-line : goal.decreases-loop-line
decreases-loop-line l = length l.rest
