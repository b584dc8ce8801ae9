use Rattle.std.proofs.Common.{◌≡◌, codes}
use Rattle.mk_line.specs.Lines.{cut as lines_of}
use Rattle.mk_decide.specs.WrapAnswers.{names_field}
use Rattle.mk_decide.proofs.wrapped_text.names_version.Given as goal

abbrev pub invariant-loop-line : goal.invariant-loop-line
invariant-loop-line l = names_field (codes "MIME-Version") l.line-iterator ≡ names_field (codes "MIME-Version") (lines_of l.fields)
