use Rattle.std.proofs.Common.{◌≡◌, ◌++◌, false}
use Rattle.mk_line.specs.Lines.{cut as lines_of, text_of}
use Rattle.mk_decide.specs.Wrapping.{content_fields, other_fields}
use Rattle.mk_decide.proofs.wrapped_text.divide.Given as goal

abbrev pub invariant-loop-line : goal.invariant-loop-line
invariant-loop-line l = record {
  content : l.content.items ++ text_of (content_fields l.inside l.line-iterator) ≡ text_of (content_fields false (lines_of l.head));
  others : l.others.items ++ text_of (other_fields l.inside l.line-iterator) ≡ text_of (other_fields false (lines_of l.head));
}
