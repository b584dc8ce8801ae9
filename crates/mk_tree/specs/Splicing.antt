-- Changing a section of a document in place.
use Rattle.std.specs.Prelude.{◌≡◌, ◌≤◌, ◌+◌, ◌-◌, ◌++◌, ℕ, suc, Bool, false, Option, None, Some, List, [], ◌∷◌}
use Rattle.mk_line.specs.Lines.{TextLine, cut, text_of}
use Rattle.mk_head.specs.Split.{Head, head_lines, fields_from}
use Rattle.mk_splice.specs.Splices.{spliced}
use Rattle.mk_tree.specs.Kinds.{kind, is_digest}
use Rattle.mk_tree.specs.Tree.{Entity, leaf, message, multi, Parts, no_parts, part, print, entity_head, field_lines, with_fields}
use Rattle.mk_tree.specs.Documents.{Document, IsStable, printed}
use Rattle.mk_tree.specs.Spans.{size}
use Rattle.mk_tree.specs.Sections.{Placed, section_at, head_text}
use Rattle.mk_tree.specs.Places.{Frame, append_parts, place_at, put, placed}

-- `new` in the place of `count` bytes at `place`, among the fields of the section at a path, gives that section these
-- fields, and the document that comes of it is stable
pub record ChangesFields (path : List ℕ) (place count : ℕ) (new : List ℕ) (t : Document) : Type 0 where
  pub numbers : List ℕ
  pub around : List Frame
  pub section : Entity
  pub fields : List TextLine
  pub path_is : path ≡ 1 ∷ numbers
  pub found : place_at numbers t.root ≡ Some (around, section)
  pub begins : (placed t.envelope around section).start ≤ place
  pub ends : place + count ≤ (placed t.envelope around section).start + size (field_lines section)
  pub printed_so : spliced place count new (printed t) ≡ printed (put t.envelope around (with_fields fields section))
  pub stable : IsStable (put t.envelope around (with_fields fields section))

-- whether a missing type means a message in the parts of an entity, where its fields are others
abbrev pub IsDigestOf : Bool → Bool → List TextLine → Entity → Type 0
IsDigestOf g digest fields (leaf h ls) = Unit {0}
IsDigestOf g digest fields (message h e) = Unit {0}
IsDigestOf g digest fields (multi h b pre ps t) = g ≡ is_digest (kind fields digest)

-- the fields of a section's head with `new` in the place of `count` bytes at `from`
abbrev pub changed_fields : ℕ → ℕ → List ℕ → Placed → List TextLine
changed_fields from count new p = fields_from false (cut (spliced from count new (head_text p)))

-- whether it does in the parts of the section at a path
abbrev pub DigestsAt : ℕ → ℕ → List ℕ → Bool → Option Placed → Type 0
DigestsAt place count new g None = Unit {0}
DigestsAt place count new g (Some p) = IsDigestOf g p.digest (changed_fields (place - p.start) count new p) p.entity

-- the same by the path alone
abbrev pub DigestsBelow : List ℕ → ℕ → ℕ → List ℕ → Document → Bool → Type 0
DigestsBelow path place count new t g = DigestsAt place count new g (section_at path t)

-- the section at a path becomes another entity, and the document that comes of it is stable
pub record SectionBecomes (path : List ℕ) (P : Entity → Entity → Type 0) (t u : Document) : Type 0 where
  pub numbers : List ℕ
  pub around : List Frame
  pub section : Entity
  pub new : Entity
  pub path_is : path ≡ 1 ∷ numbers
  pub found : place_at numbers t.root ≡ Some (around, section)
  pub becomes : P section new
  pub result : u ≡ put t.envelope around new
  pub stable : IsStable u

-- other bytes after its head: a body, or a separator that it had none of and a body
abbrev pub HasBody : List ℕ → Entity → Entity → Type 0
HasBody text s e = text_of (print e) ≡ text_of (head_lines (entity_head s)) ++ text

-- other bytes, all of them
abbrev pub HasText : List ℕ → Entity → Entity → Type 0
HasText text s e = text_of (print e) ≡ text

-- how many parts there are
abbrev pub part_count : Parts → ℕ
part_count no_parts = 0
part_count (part l e ps) = suc (part_count ps)

-- a multipart with a part more, after so many: a delimiter and an entity
pub record HasPart (place : ℕ) (text : List ℕ) (s e : Entity) : Type 0 where
  pub head : Head
  pub boundary : List ℕ
  pub preamble : List TextLine
  pub before : Parts
  pub delimiter : TextLine
  pub new : Entity
  pub after : Parts
  pub tail : Option (TextLine × List TextLine)
  pub section_is : s ≡ multi head boundary preamble (append_parts before after) tail
  pub result_is : e ≡ multi head boundary preamble (append_parts before (part delimiter new after)) tail
  pub place_is : part_count before ≡ place
  pub text_is : text_of (delimiter ∷ print new) ≡ text

-- the part at a path goes, with its delimiter: what holds it has one part more, after so many, than what it becomes
pub record PartGoes (path : List ℕ) (t u : Document) : Type 0 where
  pub around : List ℕ
  pub before : ℕ
  pub text : List ℕ
  pub path_is : path ≡ around ++ suc before ∷ []
  pub becomes : SectionBecomes around (λ s e. HasPart before text e s) t u
