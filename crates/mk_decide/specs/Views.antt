-- Edits in memory as plain data.
use Rattle.mk_decide.specs.declared.edits.Edit.{Edit}
use Rattle.mk_decide.specs.declared.edits.Edit.TheVariants as edit
use Rattle.mk_decide.specs.Edits.{PlainEdit, AddField, RemoveField, RenameField, SetField, SetBody, SetSection, InsertPart, RemovePart, Wrap}

-- an edit in memory
abbrev pub edit_of : Edit → PlainEdit
edit_of (edit.AddField path top text) = AddField path.items top text.items
edit_of (edit.RemoveField path name k) = RemoveField path.items name.items k
edit_of (edit.RenameField path name k to) = RenameField path.items name.items k to.items
edit_of (edit.SetField path name k text) = SetField path.items name.items k text.items
edit_of (edit.SetBody path text) = SetBody path.items text.items
edit_of (edit.SetSection path text) = SetSection path.items text.items
edit_of (edit.InsertPart path place text) = InsertPart path.items place text.items
edit_of (edit.RemovePart path) = RemovePart path.items
edit_of (edit.Wrap path subtype boundary) = Wrap path.items subtype.items boundary.items
