-- A field in memory as the text of a field.
use Rattle.mk_head.specs.declared.fields.Field.{Field}
use Rattle.mk_head.specs.Fields.{FieldText}

-- a field in memory as its bytes
abbrev pub field_view : Field → FieldText
field_view f = record { name = f.name.now; raw = f.raw.now }
