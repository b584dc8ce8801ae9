-- Fields of a name that are looked for one by one, and the first byte of what one says, as private contracts speak of them.
use Rattle.std.specs.Prelude.{◌==◌, ◌&&◌, if◌then◌else◌, ℕ, Bool, true, not, Option, None, Some, List, [], ◌∷◌}
use Rattle.std.specs.Char.{to_ascii_lowercase}
use Rattle.mk_line.specs.Ascii.{opening}
use Rattle.mk_line.specs.Lines.{cut}
use Rattle.mk_head.specs.declared.fields.Field.{Field}
use Rattle.mk_head.specs.Fields.{FieldText, is_named}
use Rattle.mk_head.specs.Unfolding.{value_in}

-- the value of a field that was found
abbrev pub value_said : Option Field → Option (List ℕ)
value_said None = None
value_said (Some field) = Some (value_in (cut field.raw.now))

-- the value of the first field of a name
abbrev pub first_value : List ℕ → List FieldText → Option (List ℕ)
first_value name [] = None
first_value name (f ∷ fs) = if is_named name f then Some (value_in (cut f.raw)) else first_value name fs

-- the value of the field that was found, or else of the first of a name among those left
abbrev pub said_first : List ℕ → Option Field → List FieldText → Option (List ℕ)
said_first name None fields = first_value name fields
said_first name (Some field) fields = Some (value_in (cut field.raw.now))

-- the first byte of a type that is neither a multipart nor a message, where no comment comes first
abbrev pub begins_leaf : List ℕ → Bool
begins_leaf [] = true
begins_leaf (byte ∷ bytes) = not (byte == opening) && not (to_ascii_lowercase byte == 109)
