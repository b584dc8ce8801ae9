use Rattle.std.proofs.Common.{◌≡◌}
use Rattle.std.specs.List.{list_all}
use Rattle.mk_line.specs.Lines.{cut as lines_of, is_nil}
use Rattle.mk_mailbox.proofs.from_lines.are_empty_lines.Given as goal

abbrev pub invariant-loop-line : goal.invariant-loop-line
invariant-loop-line l = list_all (λ line. is_nil line.content) l.line-iterator ≡ list_all (λ line. is_nil line.content) (lines_of l.text)
