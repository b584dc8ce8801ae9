-- How many lines an edit is about.
use Rattle.std.specs.Prelude.{◌+◌, if◌then◌else◌, ℕ, Bool, false, Option, None, Some, Result, Ok, Err, List, length}
use Rattle.mk_line.specs.declared.cutting.Ending.{Ending}
use Rattle.mk_line.specs.Lines.{TextLine, cut, eol_of}
use Rattle.mk_tree.specs.Kinds.{kind, is_digest}
use Rattle.mk_tree.specs.Tree.{Entity, Parts, no_parts, part, print, field_lines}
use Rattle.mk_tree.specs.Documents.{Document, document_lines}
use Rattle.mk_tree.specs.Places.{Frame, default_at}
use Rattle.mk_decide.specs.Edits.{PlainEdit, AddField, RemoveField, RenameField, SetField, SetBody, SetSection, InsertPart, RemovePart, Wrap, path_of, Refusal}
use Rattle.mk_decide.specs.Plans.{Plan, plan_at, place_of}
use Rattle.mk_decide.specs.Local.{parts_of}
use Rattle.mk_decide.specs.KindsKept.{is_other}

-- the lines of a given text
abbrev pub given_lines : PlainEdit → ℕ
given_lines (AddField path top text) = length (cut text)
given_lines (RemoveField path name k) = 0
given_lines (RenameField path name k to) = 0
given_lines (SetField path name k text) = length (cut text)
given_lines (SetBody path text) = length (cut text)
given_lines (SetSection path text) = length (cut text)
given_lines (InsertPart path place text) = length (cut text)
given_lines (RemovePart path) = 0
given_lines (Wrap path subtype boundary) = 0

-- the lines of the fields of parts
abbrev pub part_lines : Parts → ℕ
part_lines no_parts = 0
part_lines (part l e ps) = length (field_lines e) + part_lines ps

-- the lines of the fields of a section's parts, where other fields of the section change the default of its direct parts
abbrev pub default_lines : Bool → Entity → List TextLine → ℕ
default_lines digest s fields = if is_other (is_digest (kind (field_lines s) digest)) (is_digest (kind fields digest)) then part_lines (parts_of s) else 0

-- the lines of a section: all where it is wrapped, none where it goes, and otherwise those of its fields, and, where an edit
-- of fields changes the default of its direct parts, those of their fields
abbrev pub section_lines : PlainEdit → Bool → Entity → Plan → ℕ
section_lines (SetBody path text) digest s p = length (field_lines s)
section_lines (SetSection path text) digest s p = length (field_lines s)
section_lines (InsertPart path place text) digest s p = length (field_lines s)
section_lines (RemovePart path) digest s p = 0
section_lines (Wrap path subtype boundary) digest s p = length (print s)
section_lines e digest s p = length (field_lines s) + default_lines digest s (field_lines p.new)

-- the given and made lines, and those of the section; where the edit is refused before its lines are put in place, the
-- given lines and those of the fields
abbrev pub planned_lines : PlainEdit → Bool → Entity → Result Plan Refusal → ℕ
planned_lines e digest s (Ok p) = length p.given + section_lines e digest s p
planned_lines e digest s (Err r) = given_lines e + length (field_lines s)

-- of an edit at a place, where it is there
abbrev pub place_lines : PlainEdit → Ending → Option (List Frame × Entity) → ℕ
place_lines e eol None = given_lines e
place_lines e eol (Some q) = planned_lines e (default_at false q.0) q.1 (plan_at e eol q.0 q.1)

-- of an edit of a document
abbrev pub edit_lines : PlainEdit → Document → ℕ
edit_lines e t = place_lines e (eol_of (document_lines t)) (place_of (path_of e) t.root)
