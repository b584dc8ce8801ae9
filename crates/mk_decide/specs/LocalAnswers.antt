-- What the four edits of fields are answered, by looks at the section and at what stands around it.
use Rattle.std.specs.Prelude.{◌==◌, ◌&&◌, ◌+◌, ◌-◌, if◌then◌else◌, ℕ, Bool, true, false, Option, None, Some, Result, Ok, Err, List, [], ◌∷◌, nat_lt, length, take}
use Rattle.mk_line.specs.Lines.{cut, text_of, is_nil, ends_open}
use Rattle.mk_tree.specs.Tree.{entity_head}
use Rattle.mk_tree.specs.Documents.{Document, tree}
use Rattle.mk_tree.specs.Spans.{size}
use Rattle.mk_splice.specs.Splices.{spliced}
use Rattle.mk_tree.specs.Sections.{Placed, root_of, section_at, head_text, body_text}
use Rattle.mk_decide.specs.declared.field_edits.FieldEdit.{FieldEdit}
use Rattle.mk_decide.specs.declared.deciding.Replacement.{Replacement}
use Rattle.mk_decide.specs.Decided.{ChangesAt, IsSpliceOf}
use Rattle.mk_decide.specs.Edits.{PlainEdit, Refusal, NoSuchSection, OpenLine, HoldsBoundary, Recut}
use Rattle.mk_decide.specs.FieldPuts.{LinePut, puts}
use Rattle.mk_decide.specs.Looks.{ends_there}
use Rattle.mk_decide.specs.KindsKept.{keeps_kinds, looked_below}
use Rattle.mk_decide.specs.Around.{hit_below, glued_below}

-- bytes in the place of others
pub record PlainSplice : Type 0 where
  pub place : ℕ
  pub count : ℕ
  pub new : List ℕ

-- bytes change the section that an edit names
abbrev pub ChangesBy : PlainEdit → PlainSplice → Document → Document → Type 0
ChangesBy e r t u = ChangesAt e r.place r.count r.new t u

-- an edit is accepted, and bytes are its splice
abbrev pub IsDecided : PlainEdit → List ℕ → PlainSplice → Type 0
IsDecided e text r = IsSpliceOf e text r.place r.count r.new

-- whether whole lines in the place of `count` bytes would make an open line stand before another
abbrev pub opens_at : List ℕ → ℕ → ℕ → List ℕ → Bool
opens_at text place count lines =
    if is_nil lines then false
    else (if place == length text then ends_open text else ends_open lines && nat_lt (place + count) (length text))

-- a document without an envelope begins with the section
abbrev pub is_first : List ℕ → ℕ → Bool
is_first [] start = start == 0
is_first (k ∷ ks) start = false

-- whether the section at numbers below the root is read back as itself under the fields of a head
abbrev pub fits_at : Document → List ℕ → Placed → List ℕ → Bool
fits_at t numbers p head =
    if glued_below false numbers (root_of t) then false
    else (if ends_there (is_nil head) (is_first numbers p.start) (entity_head p.entity).separator (cut (body_text p)) then keeps_kinds (length numbers + 1) head p else false)

-- the splice, where what is made is read back
abbrev pub unless_recut : Bool → PlainSplice → Result PlainSplice Refusal
unless_recut true s = Ok s
unless_recut false s = Err Recut

-- what follows, where no multipart is hit
abbrev pub unless_held : Option ℕ → Result PlainSplice Refusal → Result PlainSplice Refusal
unless_held None r = r
unless_held (Some level) r = Err (HoldsBoundary level)

-- the answer by three looks: whether an open line would stand before another, which multipart is hit, and whether what is
-- made is read back
abbrev pub answer_by : (opens : Bool) → (hit : Option ℕ) → (fits : Bool) → PlainSplice → Result PlainSplice Refusal
answer_by opens hit fits s = if opens then Err OpenLine else unless_held hit (unless_recut fits s)

-- the answer for whole lines in the place of `count` bytes of a section's head, of which the last `kept` stay
abbrev pub answer_bytes : List ℕ → List ℕ → Placed → (from count : ℕ) → List ℕ → (kept : ℕ) → Result PlainSplice Refusal
answer_bytes text numbers p from count lines kept =
    if opens_at text (p.start + from) count lines then Err OpenLine
    else unless_held (hit_below (cut lines) 1 numbers (root_of (tree text)))
    (unless_recut (fits_at (tree text) numbers p (spliced from count lines (head_text p)))
    (record { place = p.start + from; count = count - kept; new = take (length lines - kept) lines }))

-- the answer for lines put among those of a head
abbrev pub answer_put : List ℕ → List ℕ → Placed → LinePut → Result PlainSplice Refusal
answer_put text numbers p q = answer_bytes text numbers p (size q.before) (size q.old) (text_of q.given) (length q.kept)

-- the same, or the first reason against the edit
abbrev pub answer_puts : List ℕ → List ℕ → Placed → Result LinePut Refusal → Result PlainSplice Refusal
answer_puts text numbers p (Ok q) = answer_put text numbers p q
answer_puts text numbers p (Err e) = Err e

-- the answer at a section, and at a path
abbrev pub answer_at : List ℕ → List ℕ → FieldEdit → Placed → Result PlainSplice Refusal
answer_at text numbers edit p = answer_puts text numbers p (puts edit (cut (head_text p)))

-- the numbers after the first
abbrev pub after_first : List ℕ → List ℕ
after_first [] = []
after_first (k ∷ ks) = ks

-- the answer at a section, where it is there
abbrev pub answer_found : List ℕ → List ℕ → FieldEdit → Option Placed → Result PlainSplice Refusal
answer_found text path edit None = Err NoSuchSection
answer_found text path edit (Some p) = answer_at text (after_first path) edit p

-- the answer at a path
abbrev pub answer : List ℕ → List ℕ → FieldEdit → Result PlainSplice Refusal
answer text path edit = answer_found text path edit (section_at path (tree text))

-- how many lines are looked at where lines are put in place: one after the fields, and those of the parts that change
-- their default
abbrev pub looked_bytes : List ℕ → Placed → (from count : ℕ) → List ℕ → ℕ
looked_bytes text p from count lines = if opens_at text (p.start + from) count lines then 0 else 1 + looked_below (spliced from count lines (head_text p)) p

-- how many lines are looked at where lines are put in place, or the edit is refused
abbrev pub looked_put : List ℕ → Placed → Result LinePut Refusal → ℕ
looked_put text p (Ok q) = looked_bytes text p (size q.before) (size q.old) (text_of q.given)
looked_put text p (Err e) = 0

-- and before that those of the section's fields
abbrev pub looked_at : List ℕ → FieldEdit → Placed → ℕ
looked_at text edit p = length (cut (head_text p)) + looked_put text p (puts edit (cut (head_text p)))

-- the same at a section, where it is there
abbrev pub looked_found : List ℕ → FieldEdit → Option Placed → ℕ
looked_found text edit None = 0
looked_found text edit (Some p) = looked_at text edit p

-- the same at a path
abbrev pub looked : List ℕ → List ℕ → FieldEdit → ℕ
looked text path edit = looked_found text edit (section_at path (tree text))

-- a splice in memory is this
abbrev pub plain_splice : Replacement → PlainSplice
plain_splice s = record { place = s.place; count = s.count; new = s.new.items }
