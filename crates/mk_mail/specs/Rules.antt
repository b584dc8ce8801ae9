-- Rules for the texts of fields: each field of a name stays, goes, or becomes another (own).
use Rattle.std.specs.Prelude.{◌+◌, ◌++◌, if◌then◌else◌, ℕ, Option, None, Some, List, [], ◌∷◌, nat_lt}
use Rattle.mk_line.specs.declared.cutting.Ending.{Ending}
use Rattle.mk_head.specs.Fields.{FieldText, is_named}
use Rattle.mk_decide.specs.Edits.{PlainEdit, RemoveField, SetField}
use Rattle.mk_mail.specs.Letters.{most_prepended}

-- what becomes of a field
pub data FieldChange : Type 0 where
  Stays : FieldChange
  Goes : FieldChange
  Becomes : (text : List ℕ) → FieldChange

-- a rule for the fields of a name: what becomes of one, by the line ending of the message and the field's bytes
pub record FieldRule : Type 0 where
  pub name : List ℕ
  pub change : Ending → List ℕ → FieldChange

-- the edits that make a change to the field of a number
abbrev pub change_edits : List ℕ → List ℕ → ℕ → FieldChange → List PlainEdit
change_edits path name k Stays = []
change_edits path name k Goes = RemoveField path name k ∷ []
change_edits path name k (Becomes text) = SetField path name k text ∷ []

-- the number of the next field: fields that go aren't counted, and of those that stay there are so many at most
abbrev pub following_number : ℕ → FieldChange → Option ℕ
following_number k Stays = if nat_lt k most_prepended then Some (k + 1) else None
following_number k Goes = Some k
following_number k (Becomes text) = if nat_lt k most_prepended then Some (k + 1) else None

-- the edits of a rule on fields, the next of which has a number, or none has
abbrev pub rule_edits : List ℕ → Ending → FieldRule → Option ℕ → List FieldText → List PlainEdit
rule_edits path eol r number [] = []
rule_edits path eol r None (f ∷ fs) = []
rule_edits path eol r (Some k) (f ∷ fs) =
    if is_named r.name f then change_edits path r.name k (r.change eol f.raw) ++ rule_edits path eol r (following_number k (r.change eol f.raw)) fs
    else rule_edits path eol r (Some k) fs
