use Rattle.std.proofs.Common.{◌≡◌, ◌++◌, length}
use Rattle.mk_line.specs.Marks.{trimmed}
use Rattle.mk_code.specs.QuotedPrintable.{unquoted}
use Rattle.mk_code.proofs.qp_decoding.push_line.Given as goal

abbrev pub invariant-loop-front : goal.invariant-loop-front
invariant-loop-front l = l.out.items ++ unquoted l.ending l.rest ≡ l.fn.out.items ++ unquoted l.ending (trimmed l.content)

abbrev pub decreases-loop-front : goal.decreases-loop-front
decreases-loop-front l = length l.rest
