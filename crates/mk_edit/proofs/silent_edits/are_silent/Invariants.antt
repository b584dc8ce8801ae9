use Rattle.std.proofs.Common.{◌≡◌, false}
use Rattle.std.specs.List.{list_all}
use Rattle.mk_line.specs.Lines.{cut}
use Rattle.mk_head.specs.Fields.{fields_of}
use Rattle.mk_head.specs.Split.{fields_from}
use Rattle.mk_edit.specs.HeaderEdits.{is_silent}
use Rattle.mk_edit.proofs.silent_edits.are_silent.Given as goal

abbrev pub invariant-loop-field : goal.invariant-loop-field
invariant-loop-field l = list_all (λ f. is_silent f.name) l.field-iterator ≡ list_all (λ f. is_silent f.name) (fields_of (fields_from false (cut l.text)))
