use Rattle.std.proofs.Common.{◌≡◌, ◌++◌, filter, map}
use Rattle.mk_head.specs.Fields.{is_named}
use Rattle.mk_decide.specs.Edits.{RemoveField}
use Rattle.mk_expand.specs.Views.{plain_edits}
use Rattle.mk_expand.specs.FieldWords.{fields_in}
use Rattle.mk_expand.proofs.field_words.removals.Given as goal

abbrev pub invariant-loop-field : goal.invariant-loop-field
invariant-loop-field l = plain_edits l.edits.items ++ map (λ f. RemoveField l.path l.name 1) (filter (is_named l.name) l.field-iterator) ≡ map (λ f. RemoveField l.path l.name 1) (filter (is_named l.name) (fields_in l.fn.head))
