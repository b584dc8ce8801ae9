use Rattle.std.proofs.Common.{◌≡◌, false}
use Rattle.mk_line.specs.Lines.{cut as lines_of}
use Rattle.mk_head.specs.Split.{fields_from}
use Rattle.mk_head.specs.Types.{field_value}
use Rattle.mk_tree.specs.inner.Said.{first_value}
use Rattle.mk_tree.proofs.describing.value_in.Given as goal

abbrev pub invariant-loop-field : goal.invariant-loop-field
invariant-loop-field l = first_value l.name l.field-iterator ≡ field_value l.name (fields_from false (lines_of l.head))
