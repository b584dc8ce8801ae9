-- The conditions under which an edit of a stable document gives a stable one, each on the section alone (own).
use Rattle.std.specs.Prelude.{take, IfNone, ◌<◌, ◌≡◌, ℕ, Bool, true, false, Option, None, Some, List, [], ◌∷◌, codes, not}
use Rattle.std.specs.Str.{bytes_eq}
use Rattle.mk_line.specs.declared.cutting.Ending.{Ending}
use Rattle.mk_line.specs.Lines.{TextLine, eol_of, is_open, EndsWell, is_nil}
use Rattle.mk_head.specs.Values.{lowered}
use Rattle.mk_tree.specs.Kinds.{Kind, Leaf, Message, Multi, kind_at, is_digest}
use Rattle.mk_tree.specs.Tree.{Entity, leaf, message, multi, Parts, no_parts, part, entity_head, field_lines}
use Rattle.mk_tree.specs.Documents.{Document, levels, document_lines}
use Rattle.mk_tree.specs.Sections.{body_lines}
use Rattle.mk_tree.specs.Places.{Frame, below, left_at, default_at, lines_after}
use Rattle.mk_tree.specs.Locality.{Ends, FitsIn, RootFits}
use Rattle.mk_decide.specs.Reasons.{is_open_early}
use Rattle.mk_decide.specs.Edits.{PlainEdit, AddField, RemoveField, RenameField, SetField, SetBody, SetSection, InsertPart, RemovePart, Wrap}
use Rattle.mk_decide.specs.Wrapping.{content_fields}
use Rattle.mk_decide.specs.Plans.{Plan, planned}
use Rattle.mk_decide.specs.Outcomes.{hit_level}

-- kinds are alike: leaves, messages, or multiparts of one boundary
abbrev pub IsAlike : Kind → Kind → Type 0
IsAlike Leaf k = k ≡ Leaf
IsAlike Message k = k ≡ Message
IsAlike (Multi b digest) k = k ≡ Multi b (is_digest k)

-- each part has one kind under both defaults
abbrev pub AreKept : ℕ → Bool → Bool → Parts → Type 0
AreKept left old new no_parts = Unit {0}
AreKept left old new (part l e ps) = (kind_at left (field_lines e) old ≡ kind_at left (field_lines e) new) × AreKept left old new ps

-- the direct parts of a section
abbrev pub parts_of : Entity → Parts
parts_of (leaf h ls) = no_parts
parts_of (message h e) = no_parts
parts_of (multi h b pre ps t) = ps

-- what new fields of a section have to meet: the section stays of its kind, so do its direct parts where their default
-- changes, and fields without a separator end before the first line of the body
pub record AreFieldsFor (left : ℕ) (digest : Bool) (fields : List TextLine) (s : Entity) : Type 0 where
  pub kind : IsAlike (kind_at left (field_lines s) digest) (kind_at left fields digest)
  pub parts : AreKept (below left) (is_digest (kind_at left (field_lines s) digest)) (is_digest (kind_at left fields digest)) (parts_of s)
  pub header : IfNone (entity_head s).separator (Ends fields (take 1 (body_lines s)))

abbrev mutual
  -- no multipart and no message stands where no level is left below
  pub FitsLevels : ℕ → Entity → Type 0
  FitsLevels left (leaf h ls) = Unit {0}
  FitsLevels left (message h e) = (0 < left) × FitsLevels (below left) e
  FitsLevels left (multi h b pre ps t) = (0 < left) × FitLevels (below left) ps

  -- in none of the parts
  pub FitLevels : ℕ → Parts → Type 0
  FitLevels left no_parts = Unit {0}
  FitLevels left (part l e ps) = FitsLevels left e × FitLevels left ps

-- an open last line may get an ending: CR doesn't meet LF
abbrev pub MayEnd : Ending → List TextLine → Type 0
MayEnd eol [] = Unit {0}
MayEnd eol (l ∷ []) = is_open l.ending ≡ true → EndsWell eol l.content
MayEnd eol (l ∷ m ∷ ls) = MayEnd eol (m ∷ ls)

-- only the body of a leaf that no line follows gets an ending
abbrev pub BodyMayEnd : Ending → List Frame → Entity → Type 0
BodyMayEnd eol fs (leaf h ls) = not (is_nil (lines_after fs)) ≡ false → MayEnd eol ls
BodyMayEnd eol fs (message h e) = Unit {0}
BodyMayEnd eol fs (multi h b pre ps t) = Unit {0}

-- what a section that becomes a part has to meet: a level is left for it and for what stands in it, it stays of its kind
-- under its Content- fields and the new default, and its last line may get an ending
pub record WrapsWell (left : ℕ) (digest : Bool) (eol : Ending) (fs : List Frame) (s : Entity) (subtype : List ℕ) : Type 0 where
  pub level : 0 < left
  pub depth : FitsLevels (below left) s
  pub kind : kind_at (below left) (content_fields false (field_lines s)) (bytes_eq (lowered subtype) (codes "digest")) ≡ kind_at left (field_lines s) digest
  pub ends : BodyMayEnd eol fs s

-- what an edit asks of its own section
abbrev pub Own : PlainEdit → Ending → Entity → Plan → Type 0
Own (AddField path top text) eol s p = AreFieldsFor (left_at levels p.around) (default_at false p.around) (field_lines p.new) s
Own (RemoveField path name k) eol s p = AreFieldsFor (left_at levels p.around) (default_at false p.around) (field_lines p.new) s
Own (RenameField path name k to) eol s p = AreFieldsFor (left_at levels p.around) (default_at false p.around) (field_lines p.new) s
Own (SetField path name k text) eol s p = AreFieldsFor (left_at levels p.around) (default_at false p.around) (field_lines p.new) s
Own (SetBody path text) eol s p = Unit {0}
Own (SetSection path text) eol s p = Unit {0}
Own (InsertPart path place text) eol s p = IfNone (entity_head p.new).separator (Ends (field_lines p.new) (take 1 (body_lines p.new)))
Own (RemovePart path) eol s p = Unit {0}
Own (Wrap path subtype boundary) eol s p = WrapsWell (left_at levels p.around) (default_at false p.around) eol p.around s subtype

-- the local conditions: no open line but the last; no given or made line is a mark of an enclosing multipart; what the
-- edit asks of its own section; a message's head without a separator ends before it; its first line isn't taken for the
-- envelope
pub record IsLocal (envelope : Option TextLine) (p : Plan) (Asked : Type 0) : Type 0 where
  pub closed : is_open_early (document_lines (planned envelope p)) ≡ false
  pub unmarked : hit_level p ≡ None
  pub own : Asked
  pub outer : FitsIn p.around p.new
  pub first : RootFits envelope p.around p.new

-- the local conditions of an edit of a section; the removal of a part has none
abbrev pub LocalConditions : PlainEdit → Document → Entity → Plan → Type 0
LocalConditions (RemovePart path) t s p = Unit {0}
LocalConditions e t s p = IsLocal t.envelope p (Own e (eol_of (document_lines t)) s p)
