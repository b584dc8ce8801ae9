-- Edits of the root's fields that say nothing of its body.
use Rattle.std.specs.Prelude.{◌≡◌, ◌&&◌, ℕ, Bool, true, false, Option, None, Some, IfSome}
use Rattle.mk_decide.specs.declared.field_edits.FieldEdit.{FieldEdit}
use Rattle.mk_decide.specs.declared.field_edits.FieldEdit.TheVariants.{Remove, Rename}
use Rattle.mk_edit.specs.HeaderEdits.{is_silent, leads_to_root}
use Rattle.mk_edit.specs.declared.silent_edits.SilentEdit.{SilentEdit}
use Rattle.mk_decide.specs.Edits.{PlainEdit, AddField, RemoveField, RenameField, SetField, SetBody, SetSection, InsertPart, RemovePart, Wrap}

-- none of the names says anything of it
abbrev pub IsSilent : SilentEdit → Type 0
IsSilent e = (is_silent e.name.now ≡ true) × IfSome e.to (λ to. is_silent to.now ≡ true)

-- what is made of a value, or another where there is none
abbrev pub by_option : {X Y : Type 0} → Option X → Y → (X → Y) → Y
by_option None y f = y
by_option (Some x) y f = f x

-- the removal or the renaming of the field of a number
abbrev pub numbered : SilentEdit → ℕ → FieldEdit
numbered e k = by_option e.to (Remove e.name k) (λ to. Rename e.name k to)

-- an edit is one of the root's fields that says nothing of its body
abbrev pub is_silent_edit : PlainEdit → Bool
is_silent_edit (AddField path top text) = false
is_silent_edit (RemoveField path name k) = leads_to_root path && is_silent name
is_silent_edit (RenameField path name k to) = leads_to_root path && is_silent name && is_silent to
is_silent_edit (SetField path name k text) = false
is_silent_edit (SetBody path text) = false
is_silent_edit (SetSection path text) = false
is_silent_edit (InsertPart path place text) = false
is_silent_edit (RemovePart path) = false
is_silent_edit (Wrap path subtype boundary) = false
