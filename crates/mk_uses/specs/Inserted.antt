-- A part more for each multipart of a message (own).
use Rattle.std.specs.Prelude.{◌≡◌, ℕ, Ok, List, [], ◌∷◌, length, min}
use Rattle.std.specs.List.{flat_map}
use Rattle.mk_tree.specs.declared.shapes.Kind.{Kind}
use Rattle.mk_tree.specs.declared.shapes.Kind.TheVariants.{Leaf, Multi, Message}
use Rattle.mk_tree.specs.Documents.{Document}
use Rattle.mk_tree.specs.Forms.{kind_in}
use Rattle.mk_tree.specs.Sections.{children}
use Rattle.mk_decide.specs.Edits.{Group, InsertPart, PlainEdit}
use Rattle.mk_edit.specs.History.{History}
use Rattle.mk_edit.specs.Histories.{started, step, text_now}
use Rattle.mk_view.specs.Listed.{Listed, greatest_number, listed}

-- an edit of a section of a kind: where that is a multipart, the part is put after so many others
abbrev pub insertion_by : Kind → List ℕ → ℕ → List ℕ → List PlainEdit
insertion_by Multi path place part = InsertPart path place part ∷ []
insertion_by Leaf path place part = []
insertion_by Message path place part = []

-- the part comes after all others, of which an edit can name 4,294,967,295
abbrev pub insertion : List ℕ → Listed → List PlainEdit
insertion part s = insertion_by (kind_in s.section.entity) s.path (min (length (children s.section)) greatest_number) part

-- the edits of all multiparts
abbrev pub all_insertions : List ℕ → Document → List PlainEdit
all_insertions part t = flat_map (insertion part) (listed t)

-- a text is what edits, as one step, make of a message
abbrev pub IsMadeBy : List PlainEdit → List ℕ → List ℕ → Type 0
IsMadeBy es message text = (h : History) × (step (Group es) (started message) ≡ Ok h) × (text ≡ text_now h)
