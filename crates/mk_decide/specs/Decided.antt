-- What is known of an accepted edit: the bytes that it puts in the place of others.
use Rattle.std.specs.Prelude.{◌≡◌, ◌≤◌, ◌+◌, ℕ, Ok, List, [], ◌∷◌, length, take, drop}
use Rattle.mk_tree.specs.Documents.{Document, tree, printed}
use Rattle.mk_splice.specs.Splices.{spliced}
use Rattle.mk_tree.specs.Splicing.{ChangesFields, SectionBecomes, HasBody, HasText, HasPart, PartGoes}
use Rattle.mk_decide.specs.Edits.{PlainEdit, AddField, RemoveField, RenameField, SetField, SetBody, SetSection, InsertPart, RemovePart, Wrap}
use Rattle.mk_decide.specs.Outcomes.{edited}
use Rattle.mk_decide.specs.EditSplices.{splices_of}

-- the bytes change the section that the edit names, and the document that comes of it is stable
abbrev pub ChangesAt : PlainEdit → (place count : ℕ) → (new : List ℕ) → Document → Document → Type 0
ChangesAt (AddField path top text) place count new t u = ChangesFields path place count new t
ChangesAt (RemoveField path name k) place count new t u = ChangesFields path place count new t
ChangesAt (RenameField path name k to) place count new t u = ChangesFields path place count new t
ChangesAt (SetField path name k text) place count new t u = ChangesFields path place count new t
ChangesAt (SetBody path text) place count new t u = SectionBecomes path (HasBody new) t u
ChangesAt (SetSection path text) place count new t u = SectionBecomes path (HasText new) t u
ChangesAt (InsertPart path after text) place count new t u = SectionBecomes path (HasPart after new) t u
ChangesAt (RemovePart path) place count new t u = PartGoes path t u
ChangesAt (Wrap path subtype boundary) place count new t u = SectionBecomes path (HasText new) t u

-- the edit is accepted, and these bytes are its splice
pub record IsSpliceOf (e : PlainEdit) (text : List ℕ) (place count : ℕ) (new : List ℕ) : Type 0 where
  pub document : Document
  pub accepted : edited e (tree text) ≡ Ok document
  pub printed_so : printed document ≡ spliced place count new text
  pub splices : splices_of e (tree text) ≡ record { place = place; old = take count (drop place text); new = new } ∷ []
  pub within : place + count ≤ length text
  pub changes : ChangesAt e place count new (tree text) document
