-- A document: the line that a mailbox puts before a message, where it is there, and the message (own).
use Rattle.std.specs.Prelude.{if◌then◌else◌, ◌≡◌, ◌++◌, ℕ, false, Option, None, Some, List, [], ◌∷◌}
use Rattle.mk_line.specs.Lines.{TextLine, cut, text_of}
use Rattle.mk_line.specs.Kinds.{is_from_line}
use Rattle.std.specs.Option.{option_to_list}
use Rattle.mk_tree.specs.Tree.{Entity, read, print}

-- a message as a tree, and the From-line that a mailbox puts before it, where there is one
pub record Document : Type 0 where
  pub envelope : Option TextLine
  pub root : Entity

-- how many levels may stand below the root: the root has level 1, and what stands at level 101 is a leaf (own)
abbrev pub levels : ℕ
levels = 100

-- the document that lines are read as: a From-line at the start is the envelope
abbrev pub document_of : List TextLine → Document
document_of [] = record { envelope = None; root = read levels false [] }
document_of (l ∷ ls) =
    if is_from_line l.content then record { envelope = Some l; root = read levels false ls }
    else record { envelope = None; root = read levels false (l ∷ ls) }

-- the document that a text is read as
abbrev pub tree : List ℕ → Document
tree text = document_of (cut text)

-- all lines of a document, in order
abbrev pub document_lines : Document → List TextLine
document_lines t = option_to_list t.envelope ++ print t.root

-- the text of a document
abbrev pub printed : Document → List ℕ
printed t = text_of (document_lines t)

-- a document is stable where its text is read as itself
abbrev pub IsStable : Document → Type 0
IsStable t = tree (printed t) ≡ t
