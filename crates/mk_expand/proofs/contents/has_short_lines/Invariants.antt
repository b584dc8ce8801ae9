use Rattle.std.proofs.Common.{◌≡◌, length, nat_le}
use Rattle.std.specs.List.{list_all}
use Rattle.mk_line.specs.Lines.{cut as lines_of}
use Rattle.mk_expand.specs.Contents.{longest_line}
use Rattle.mk_expand.proofs.contents.has_short_lines.Given as goal

abbrev pub invariant-loop-line : goal.invariant-loop-line
invariant-loop-line l = list_all (λ x. nat_le (length x.content) longest_line) l.line-iterator ≡ list_all (λ x. nat_le (length x.content) longest_line) (lines_of l.bytes)
