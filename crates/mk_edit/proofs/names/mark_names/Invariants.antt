use Rattle.std.proofs.Common.{false}
use Rattle.mk_line.specs.Lines.{cut as lines_of}
use Rattle.mk_head.specs.Split.{fields_from}
use Rattle.mk_head.specs.Fields.{fields_of}
use Rattle.mk_edit.specs.inner.FieldNames.{AreRead}
use Rattle.mk_edit.proofs.names.mark_names.Given as goal

abbrev pub invariant-loop-field : goal.invariant-loop-field
invariant-loop-field l = AreRead l.fn.marks (fields_of (fields_from false (lines_of l.text))) l.field-iterator l.marks
