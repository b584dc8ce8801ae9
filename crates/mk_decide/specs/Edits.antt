-- The nine edits of a message, what may be asked of a session, and the reasons against it, as plain data (own).
use Rattle.std.specs.Prelude.{ℕ, Bool, List}

-- an edit at the section of a path, whose numbers count from 1 and whose first is the root's
pub data PlainEdit : Type 0 where
  -- a field more, the first (top) or the last
  AddField : (path : List ℕ) → (top : Bool) → (text : List ℕ) → PlainEdit
  -- the k-th field of a name goes
  RemoveField : (path name : List ℕ) → (k : ℕ) → PlainEdit
  -- it gets another name
  RenameField : (path name : List ℕ) → (k : ℕ) → (to : List ℕ) → PlainEdit
  -- a field stands in its place
  SetField : (path name : List ℕ) → (k : ℕ) → (text : List ℕ) → PlainEdit
  -- other lines after the head of a leaf
  SetBody : (path text : List ℕ) → PlainEdit
  -- the entity that a text is read as, in the place of a section
  SetSection : (path text : List ℕ) → PlainEdit
  -- such an entity as a part more of a multipart, after so many others
  InsertPart : (path : List ℕ) → (place : ℕ) → (text : List ℕ) → PlainEdit
  -- a part goes, with its delimiter
  RemovePart : (path : List ℕ) → PlainEdit
  -- a section becomes the one part of a multipart
  Wrap : (path subtype boundary : List ℕ) → PlainEdit

-- the path of an edit
abbrev pub path_of : PlainEdit → List ℕ
path_of (AddField path top text) = path
path_of (RemoveField path name k) = path
path_of (RenameField path name k to) = path
path_of (SetField path name k text) = path
path_of (SetBody path text) = path
path_of (SetSection path text) = path
path_of (InsertPart path place text) = path
path_of (RemovePart path) = path
path_of (Wrap path subtype boundary) = path

-- the reasons, in the order in which they are tried
pub data Refusal : Type 0 where
  -- there is no section at the path
  NoSuchSection : Refusal
  -- a part is to be put into a section that is no multipart
  NotMultipart : Refusal
  -- a section whose body is to be set is no leaf
  NotLeaf : Refusal
  -- a section to be removed is no part of a multipart
  NotPart : Refusal
  -- there is no k-th field of the name
  NoSuchField : Refusal
  -- there are fewer parts than are to stand before the new one
  BadPlace : Refusal
  -- a text isn't exactly one field
  BadField : Refusal
  -- a new name is none (RFC 5322, 2.2)
  BadName : Refusal
  -- a boundary that may not be made (RFC 2046, 5.1.1)
  BadBoundary : Refusal
  -- a subtype that is no token (RFC 2045, 5.1)
  BadSubtype : Refusal
  -- an open line would not be the last
  OpenLine : Refusal
  -- a line would be a mark of the multipart with so many numbers in its path
  HoldsBoundary : (level : ℕ) → Refusal
  -- the edited document would be read in another way
  Recut : Refusal
  -- no step is done that could be taken back
  NothingToUndo : Refusal
  -- no step was taken back that could be made again
  NothingToRedo : Refusal
  -- an edit of a group is refused, the first of its edits having number 0
  Member : (index : ℕ) → (refusal : Refusal) → Refusal

-- what may be asked of a session: an edit, several as one step, to take the last step back, to make it again
pub data Order : Type 0 where
  Do : PlainEdit → Order
  Group : List PlainEdit → Order
  Undo : Order
  Redo : Order
