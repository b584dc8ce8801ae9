-- A change planned: bytes in the place of others, and what becomes of the lengths of a section (own).
use Rattle.std.specs.Prelude.{◌≡◌, ◌≤◌, ◌<◌, ◌+◌, ◌-◌, ◌^◌, ◌++◌, false, ℕ, suc, Option, List, [], ◌∷◌, length}
use Rattle.mk_line.specs.Lines.{TextLine, AreLines, text_of}
use Rattle.mk_head.specs.Split.{Head, head_lines}
use Rattle.mk_tree.specs.declared.planning.Plan.{Plan}
use Rattle.mk_tree.specs.declared.planning.SectionChange.{SectionChange}
use Rattle.mk_tree.specs.declared.planning.SectionChange.TheVariants as section
use Rattle.mk_tree.specs.Tree.{Entity, multi, Parts, part, print, print_parts}
use Rattle.mk_tree.specs.Reading.{IsWellRead}
use Rattle.mk_tree.specs.Documents.{Document, printed, tree}
use Rattle.mk_tree.specs.Spans.{size, span_of}
use Rattle.mk_tree.specs.Sections.{Placed, raw_of}
use Rattle.mk_tree.specs.Changed.{FitsOwn, LeadsTo, own_changed, respan}
use Rattle.mk_tree.specs.Places.{append_parts}
use Rattle.mk_splice.specs.Splices.{spliced}
use Rattle.mk_tree.specs.Splicing.{part_count, HasBody, HasText, HasPart}

-- a multipart without its part of a number, counted from 1, and without the delimiter of that part
pub record LacksPart (number : ℕ) (s e : Entity) : Type 0 where
  pub head : Head
  pub boundary : List ℕ
  pub preamble : List TextLine
  pub before : Parts
  pub delimiter : TextLine
  pub old : Entity
  pub after : Parts
  pub tail : Option (TextLine × List TextLine)
  pub section_is : s ≡ multi head boundary preamble (append_parts before (part delimiter old after)) tail
  pub result_is : e ≡ multi head boundary preamble (append_parts before after) tail
  pub number_is : suc (part_count before) ≡ number

-- what a section becomes
abbrev pub Becomes : SectionChange → Entity → Entity → Type 0
Becomes (section.Body text) s e = HasBody text.now s e
Becomes (section.Entity text) s e = HasText text.now s e
Becomes (section.Part place text) s e = HasPart place text.now s e
Becomes (section.NoPart number) s e = LacksPart number s e

-- the bytes that come
abbrev pub new_of : SectionChange → List ℕ
new_of (section.Body text) = text.now
new_of (section.Entity text) = text.now
new_of (section.Part place text) = text.now
new_of (section.NoPart number) = []

-- the plan makes an entity of a section: its bytes, and its lengths
pub record Makes (p : Placed) (e : Entity) (new : List ℕ) (q : Plan) : Type 0 where
  pub begins : p.start ≤ q.place
  pub ends : q.place + q.count ≤ p.start + size (print p.entity)
  pub text : spliced (q.place - p.start) q.count new (raw_of p) ≡ text_of (print e)
  pub lengths : (n : ℕ) → own_changed q.own q.count (length new) (span_of p.digest n p.entity) ≡ span_of p.digest n e
  pub fits : (n : ℕ) → FitsOwn q.own q.count (span_of p.digest n p.entity)

-- the same of every entity that is read back at the place, and that the section becomes
abbrev pub MakesAll : Placed → ℕ → (Entity → Entity → Type 0) → List ℕ → Plan → Type 0
MakesAll p left P new q = (e : Entity) → P p.entity e → AreLines (print e) → IsWellRead left p.digest e → Makes p e new q

-- the place after so many parts of a multipart
abbrev pub IsBehindParts : Placed → ℕ → ℕ → Type 0
IsBehindParts p count place =
    (h : Head) (b : List ℕ) (pre : List TextLine) (before after : Parts) (t : Option (TextLine × List TextLine)) → p.entity ≡ multi h b pre (append_parts before after) t → part_count before ≡ count
    → place ≡ p.start + size (head_lines h ++ (pre ++ print_parts before))

-- the plan makes a document of another: its bytes, and its lengths
pub record Puts (path : List ℕ) (new : List ℕ) (t : Document) (q : Plan) : Type 0 where
  pub numbers : List ℕ
  pub after : Document
  pub path_is : path ≡ 1 ∷ numbers
  pub within : q.place + q.count ≤ length (printed t)
  pub text : tree (spliced q.place q.count new (printed t)) ≡ after
  pub envelope : after.envelope ≡ t.envelope
  pub leads : length (printed after) < 2 ^ 64 → LeadsTo numbers q.count (length new) (FitsOwn q.own q.count) (span_of false 0 t.root)
  pub lengths : respan numbers q.count (length new) (own_changed q.own q.count (length new)) (span_of false 0 t.root) ≡ span_of false 0 after.root
