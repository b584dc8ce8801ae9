use Rattle.std.proofs.Common.{◌≡◌}
use Rattle.mk_line.specs.Lines.{cut}
use Rattle.mk_script.specs.Reasons.{line_text}
use Rattle.mk_script.proofs.reasons.line_text.Given as goal

abbrev pub invariant-loop-line : goal.invariant-loop-line
invariant-loop-line l = line_text l.left l.line-iterator ≡ line_text l.number (cut l.script)
