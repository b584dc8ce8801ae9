use Rattle.std.proofs.Common.{◌≡◌, filter}
use Rattle.mk_head.specs.Fields.{is_named}
use Rattle.mk_expand.specs.Views.{plain_edits}
use Rattle.mk_expand.specs.FieldWords.{fields_in, put_over}
use Rattle.mk_expand.proofs.FieldsFound.{put_on}
use Rattle.mk_expand.proofs.field_words.put_over_named.Given as goal

abbrev pub invariant-loop-field : goal.invariant-loop-field
invariant-loop-field l = put_on l.path l.name l.text (plain_edits l.edits.items) (filter (is_named l.name) l.field-iterator) ≡ put_over l.path l.name l.text (filter (is_named l.name) (fields_in l.fn.head))
