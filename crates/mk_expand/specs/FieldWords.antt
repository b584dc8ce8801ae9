-- Words that change all fields of a name (own). What leads nowhere stands for the edit that is refused for that reason.
use Rattle.std.specs.Prelude.{if◌then◌else◌, ℕ, false, Option, None, Some, List, [], ◌∷◌, filter, map}
use Rattle.mk_line.specs.Lines.{cut}
use Rattle.mk_head.specs.Fields.{FieldText, fields_of, is_named, is_one_field}
use Rattle.mk_head.specs.Split.{fields_from}
use Rattle.mk_tree.specs.Sections.{Placed, section_fields}
use Rattle.mk_decide.specs.Edits.{PlainEdit, AddField, RemoveField, SetField}

-- the fields of a section that have a name
abbrev pub those : List ℕ → Placed → List FieldText
those name p = filter (is_named name) (section_fields p)

-- `drop`: all fields of a name go; none may be there
abbrev pub dropped : List ℕ → List ℕ → Option Placed → List PlainEdit
dropped path name None = RemoveField path name 1 ∷ []
dropped path name (Some p) = map (λ f. RemoveField path name 1) (those name p)

-- a field in the place of the first of some, the others of which go; where there is none it is added
abbrev pub put_over : List ℕ → List ℕ → List ℕ → List FieldText → List PlainEdit
put_over path name text [] = AddField path false text ∷ []
put_over path name text (first ∷ others) = SetField path name 1 text ∷ map (λ f. RemoveField path name 2) others

-- the name of the first field
abbrev pub first_name : List FieldText → List ℕ
first_name [] = []
first_name (first ∷ others) = first.name

-- the fields that a text begins with
abbrev pub fields_in : List ℕ → List FieldText
fields_in text = fields_of (fields_from false (cut text))

-- the name of the field that a text is
abbrev pub name_in : List ℕ → List ℕ
name_in text = first_name (fields_in text)

-- `put`: a field in the place of those of its name
abbrev pub put : List ℕ → List ℕ → Option Placed → List PlainEdit
put path text None = AddField path false text ∷ []
put path text (Some p) = if is_one_field (cut text) then put_over path (name_in text) text (those (name_in text) p) else AddField path false text ∷ []
