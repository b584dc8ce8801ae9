use Rattle.std.proofs.Common.{◌≡◌}
use Rattle.mk_line.specs.Lines.{cut}
use Rattle.mk_messages.specs.inner.Separators.{separator_length}
use Rattle.mk_messages.proofs.SeparatorAfter.{length_after}
use Rattle.mk_messages.proofs.taken_out.separator_length.Given as goal

abbrev pub invariant-loop-line : goal.invariant-loop-line
invariant-loop-line l = length_after l.length l.line-iterator ≡ separator_length (cut l.text)
