use Rattle.std.proofs.Common.{◌≡◌, ◌≤◌, ◌+◌, false, length}
use Rattle.mk_line.specs.Lines.{cut as lines_of}
use Rattle.mk_head.specs.Split.{fields_from}
use Rattle.mk_head.specs.Fields.{fields_of}
use Rattle.mk_decide.specs.FieldPuts.{raw_size}
use Rattle.mk_edit.specs.inner.Passing.{passed_over}
use Rattle.mk_edit.proofs.passing.pass_over.Given as goal

abbrev pub invariant-loop-field : goal.invariant-loop-field
invariant-loop-field l = record {
  rest : passed_over l.name l.left l.place l.field-iterator ≡ passed_over l.name l.k 0 (fields_of (fields_from false (lines_of l.fields)));
  within : l.place + raw_size l.field-iterator ≤ length l.fields;
}
