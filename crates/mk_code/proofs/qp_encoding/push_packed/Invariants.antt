use Rattle.std.proofs.Common.{◌≡◌, ◌≤◌, ◌++◌, length}
use Rattle.mk_line.specs.inner.Kept.{IsKept}
use Rattle.mk_code.specs.OutputLines.{widest}
use Rattle.mk_code.specs.QuotedPrintable.{packed}
use Rattle.mk_code.proofs.qp_encoding.push_packed.Given as goal

abbrev pub invariant-loop-byte : goal.invariant-loop-byte
invariant-loop-byte l = record {
  narrow : l.column ≤ widest;
  told : l.out.items ++ packed l.eol l.column l.rest ≡ l.fn.out.items ++ packed l.eol 0 l.line;
  kept : IsKept l.fn.out.items l.out.items;
}

abbrev pub decreases-loop-byte : goal.decreases-loop-byte
decreases-loop-byte l = length l.rest
