use Rattle.std.proofs.Common.{◌≡◌, drop, map}
use Rattle.std.specs.List.{list_all}
use Rattle.mk_decide.specs.Views.{edit_of}
use Rattle.mk_edit.specs.HeaderEdits.{edits_header}
use Rattle.mk_field.proofs.headers.edit_headers.Given as goal

abbrev pub invariant-loop-edit : goal.invariant-loop-edit
invariant-loop-edit l = list_all edits_header (map edit_of (drop l.edit-index l.edits)) ≡ list_all edits_header (map edit_of l.edits)
