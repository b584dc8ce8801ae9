-- What an entity put in the place of a section has to meet, so that the document is read back as it is (own).
use Rattle.std.specs.Prelude.{take, IfNone, ◌≡◌, ◌++◌, false, Option, None, Some, List, [], ◌∷◌}
use Rattle.mk_line.specs.Lines.{TextLine, cut}
use Rattle.mk_line.specs.Kinds.{is_from_line}
use Rattle.mk_head.specs.Split.{Head, head_of, after_head}
use Rattle.mk_tree.specs.Cutting.{Unmarked}
use Rattle.mk_tree.specs.Tree.{Entity, read, print, entity_head}
use Rattle.mk_tree.specs.Documents.{levels, document_lines, printed}
use Rattle.mk_tree.specs.Places.{Frame, in_message, in_multi, left_at, default_at, put}

-- no line is a mark of an enclosing multipart (RFC 2046, 5.1.1)
abbrev pub Unmarked_in : List Frame → List TextLine → Type 0
Unmarked_in [] ls = Unit {0}
Unmarked_in (in_message h ∷ fs) ls = Unmarked_in fs ls
Unmarked_in (in_multi h b pre before l after t ∷ fs) ls = Unmarked b ls × Unmarked_in fs ls

-- fields without a separator (own)
abbrev pub open_head : List TextLine → Head
open_head fields = record { fields = fields; separator = None }

-- fields and one line after them, or none, are read as these fields without a separator, and that line as the body
pub record Ends (fields first : List TextLine) : Type 0 where
  pub head : head_of (fields ++ first) ≡ open_head fields
  pub body : after_head (fields ++ first) ≡ first

-- an entity after the head of a message doesn't run on into it (own): without a separator there it has no head, and the
-- fields end at its first line. A part stands after a delimiter
abbrev pub FitsFrame : Frame → Entity → Type 0
FitsFrame (in_message h) e = IfNone h.separator ((entity_head e ≡ open_head []) × Ends h.fields (take 1 (print e)))
FitsFrame (in_multi h b pre before l after t) e = Unit {0}

-- of what stands around a place only the innermost is looked at
abbrev pub FitsIn : List Frame → Entity → Type 0
FitsIn [] e = Unit {0}
FitsIn (f ∷ []) e = FitsFrame f e
FitsIn (f ∷ g ∷ fs) e = FitsIn (g ∷ fs) e

-- the first line is no From-line
abbrev pub BeginsPlain : List TextLine → Type 0
BeginsPlain [] = Unit {0}
BeginsPlain (l ∷ ls) = is_from_line l.content ≡ false

-- the root of a document without an envelope doesn't begin with what would be its envelope (own)
abbrev pub RootFits : Option TextLine → List Frame → Entity → Type 0
RootFits (Some l) fs e = Unit {0}
RootFits None [] e = BeginsPlain (print e)
RootFits None (f ∷ fs) e = Unit {0}

-- an entity may stand at a place (own). `lines`: all lines of the document are the lines of their text; `unmarked`: none
-- of its own is a mark of an enclosing multipart; `own`: it is what is read from its lines there; `continues`: a message's
-- head without a separator ends before it; `first`: its first line isn't taken for the envelope
pub record Replaces (envelope : Option TextLine) (fs : List Frame) (e : Entity) : Type 0 where
  pub lines : cut (printed (put envelope fs e)) ≡ document_lines (put envelope fs e)
  pub unmarked : Unmarked_in fs (print e)
  pub own : read (left_at levels fs) (default_at false fs) (print e) ≡ e
  pub continues : FitsIn fs e
  pub first : RootFits envelope fs e
