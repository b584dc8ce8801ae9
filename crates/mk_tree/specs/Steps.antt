-- What the reader's steps look at and answer.
use Rattle.std.specs.Prelude.{◌&&◌, ◌≡◌, if◌then◌else◌, ℕ, Bool, false, true, not, Option, None, Some, List, [], ◌∷◌, length, map}
use Rattle.std.specs.Borrow.{Bor}
use Rattle.mk_line.specs.declared.marks.Mark.{Mark}
use Rattle.mk_line.specs.declared.marks.Mark.TheVariants.{No, Part, Close}
use Rattle.mk_line.specs.Lines.{TextLine, printed_line}
use Rattle.mk_line.specs.Marks.{mark}
use Rattle.mk_tree.specs.declared.describing.Described.{Described}
use Rattle.mk_tree.specs.declared.describing.Described.TheVariants as described
use Rattle.mk_tree.specs.Kinds.{Kind, Leaf, Message, Multi}
use Rattle.mk_tree.specs.Tree.{read, entity_by, parts_by}
use Rattle.mk_tree.specs.Kinds.{kind_at}
use Rattle.mk_tree.specs.Spans.{size, Form, Spans, spans_of}
use Rattle.mk_tree.specs.Places.{below}
use Rattle.mk_tree.specs.Forms.{form_in, spans_in}
use Rattle.mk_tree.specs.Upto.{is_marked, upto, beyond, inner}

-- boundaries in memory as lists of bytes
abbrev pub boundaries_of : List (Bor (List ℕ)) → List (List ℕ)
boundaries_of bs = map (λ b. b.now) bs

-- what fields say of a body, in memory, as a kind
abbrev pub kind_described : Described → Kind
kind_described described.Leaf = Leaf
kind_described described.Message = Message
kind_described (described.Multi boundary digest) = Multi boundary.items digest

-- the mark begins a part
abbrev pub is_part : Mark → Bool
is_part No = false
is_part Part = true
is_part Close = false

-- whether a delimiter of a boundary stands at the start, and no mark of those around it
abbrev pub begins_part : List (List ℕ) → List ℕ → List TextLine → Bool
begins_part bs b [] = false
begins_part bs b (l ∷ ls) = not (is_marked bs l) && is_part (mark b l.content)

-- the lines after the first
abbrev pub after_first : List TextLine → List TextLine
after_first [] = []
after_first (l ∷ ls) = ls

-- how many bytes the first line has
abbrev pub first_size : List TextLine → ℕ
first_size [] = 0
first_size (l ∷ ls) = length (printed_line l)

-- the line at the start and what it closes off, where it is no mark of the boundaries
abbrev pub ended_by : List (List ℕ) → List TextLine → Option (TextLine × List TextLine)
ended_by bs [] = None
ended_by bs (l ∷ ls) = if is_marked bs l then None else Some (l, upto bs ls)

-- the lines are none, or begin with a mark
abbrev pub AtMark : List (List ℕ) → List TextLine → Type 0
AtMark bs [] = Unit {0}
AtMark bs (l ∷ ls) = is_marked bs l ≡ true

-- a form and spans are kept of the body that lines are read as after fields
abbrev pub KeptOfBody : ℕ → Bool → List TextLine → List TextLine → Form → Spans → Type 0
KeptOfBody left digest fields ls form spans =
    (separator : Option TextLine) → let e = entity_by (read (below left)) (kind_at left fields digest) (record { fields = fields; separator = separator }) ls in
    (form ≡ form_in digest e) × (spans ≡ spans_in digest e)

-- a multipart's preamble and parts are kept, and the lines begin with what ends the last part
pub record KeptOfParts (left : ℕ) (digest : Bool) (bs : List (List ℕ)) (b : List ℕ) (ls : List TextLine) (front : ℕ) (spans : Spans) (rest : List TextLine) : Type 0 where
  pub preamble : front ≡ size (inner bs b ls).preamble
  pub parts : spans ≡ spans_of digest (parts_by (read left digest) (inner bs b ls).parts)
  pub tail : ended_by bs rest ≡ (inner bs b ls).tail
  pub beyond : beyond bs rest ≡ beyond bs ls
