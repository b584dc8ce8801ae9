use Rattle.std.proofs.Common.{◌≡◌, false}
use Rattle.std.specs.List.{list_any}
use Rattle.mk_line.specs.Lines.{cut}
use Rattle.mk_head.specs.Fields.{fields_of, is_named}
use Rattle.mk_head.specs.Split.{fields_from}
use Rattle.mk_texts.proofs.rules.has_field.Given as goal

abbrev pub invariant-loop-field : goal.invariant-loop-field
invariant-loop-field l = list_any (is_named l.name) l.field-iterator ≡ list_any (is_named l.name) (fields_of (fields_from false (cut l.head)))
