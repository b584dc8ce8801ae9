use Rattle.std.proofs.Common.{◌≡◌, ◌≤◌, ◌+◌, false, length}
use Rattle.mk_line.specs.Lines.{cut as lines_of}
use Rattle.mk_head.specs.Split.{fields_from}
use Rattle.mk_head.specs.Fields.{fields_of}
use Rattle.mk_decide.specs.FieldPuts.{placed_field, raw_size}
use Rattle.mk_decide.proofs.field_edits.field_at.Given as goal

abbrev pub invariant-loop-field : goal.invariant-loop-field
invariant-loop-field l = record {
  rest : placed_field l.name l.left l.place l.field-iterator ≡ placed_field l.name l.k 0 (fields_of (fields_from false (lines_of l.head)));
  within : l.place + raw_size l.field-iterator ≤ length l.head;
}
