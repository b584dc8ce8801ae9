-- Whether a line begins a message, by itself and by what follows it, and lines that belong to a message.
use Rattle.mk_mailbox.specs.declared.from_lines.FromLines.{FromLines}
use Rattle.mk_mailbox.specs.declared.from_lines.FromLines.TheVariants.{Any, Dated, Fielded}
use Rattle.std.proofs.Common.{◌≡◌, ◌&&◌, ◌++◌, ℕ, Bool, true, false, List, [], ◌∷◌, refl, ap, sym, ◌∙◌, append_assoc}
use Rattle.mk_line.specs.Kinds.{is_field_start}
use Rattle.mk_line.specs.Lines.{TextLine, cut, is_nil}
use Rattle.mk_mailbox.specs.inner.Gathered.{IsWholeLine, front_of, later_of}
use Rattle.mk_mailbox.specs.Pieces.{is_first, may_begin, needs_field, starts_field}
use Rattle.mk_mailbox.proofs.MessageLines.{front_line, later_line, starts_line}

pub and_false : (t : Bool) → (t && false) ≡ false
and_false true = refl
and_false false = refl

pub other_first : (way : FromLines) (e : Bool) (content : List ℕ) (ls : List TextLine) → may_begin way e content ≡ false → is_first way e content ls ≡ false
other_first way e content ls m = rw m refl

pub free_first : (way : FromLines) (e : Bool) (content : List ℕ) (ls : List TextLine) → may_begin way e content ≡ true → needs_field way ≡ false → is_first way e content ls ≡ true
free_first way e content ls m n = rw (m, n) refl

pub field_first : (way : FromLines) (e : Bool) (content : List ℕ) (ls : List TextLine) → may_begin way e content ≡ true → needs_field way ≡ true → starts_field ls ≡ true → is_first way e content ls ≡ true
field_first way e content ls m n s = rw (m, n, s) refl

pub bare_first : (way : FromLines) (e : Bool) (content : List ℕ) (ls : List TextLine) → needs_field way ≡ true → starts_field ls ≡ false → is_first way e content ls ≡ false
bare_first way e content ls n s = rw (n, s) (and_false (may_begin way e content))

-- a From-line isn't empty, and directly after a line that isn't none begins a message
pub begin_none : (way : FromLines) (e : Bool) → may_begin way e [] ≡ false
begin_none Any true = refl
begin_none Dated true = refl
begin_none Fielded true = refl
begin_none way false = refl

pub begin_some : (way : FromLines) (e : Bool) (content : List ℕ) → may_begin way e content ≡ true → is_nil content ≡ false
begin_some way e [] m = let none = begin_none way e in cc
begin_some way e (byte ∷ bytes) m = refl

pub later_first_none : (way : FromLines) (e : Bool) (content : List ℕ) (ls : List TextLine) → e ≡ false → is_first way e content ls ≡ false
later_first_none way e content ls h = rw h refl

-- ---- lines that belong to a message

-- after these lines the message goes on
abbrev pub Goes : FromLines → Bool → List ℕ → Bool → Type 0
Goes way e text f = (more : List ℕ) → (front_of way e (text ++ more) ≡ text ++ front_of way f more) × (later_of way e (text ++ more) ≡ later_of way f more)

pub goes_on : (way : FromLines) (e f g : Bool) (text lines : List ℕ) → Goes way e text f → Goes way f lines g → Goes way e (text ++ lines) g
goes_on way e f g text lines a b = λ more. (
  ap (front_of way e) (append_assoc text lines more)
      ∙ ((a (lines ++ more)).0 ∙ (ap (λ x. text ++ x) (b more).0 ∙ sym (append_assoc text lines (front_of way g more)))),
  ap (later_of way e) (append_assoc text lines more) ∙ ((a (lines ++ more)).1 ∙ (b more).1),
)

pub line_goes : (way : FromLines) (e : Bool) (line content : List ℕ) → IsWholeLine line content → may_begin way e content ≡ false → Goes way e line (is_nil content)
line_goes way e line content w m = λ more. (
  front_line way e line content more w (other_first way e content (cut more) m),
  later_line way e line content more w (other_first way e content (cut more) m),
)

-- a line that waited, and the next, which is no field
pub pair_goes : (way : FromLines) (e : Bool) (line content next other : List ℕ) → IsWholeLine line content → IsWholeLine next other → may_begin way e content ≡ true → needs_field way ≡ true → is_field_start other ≡ false
    → Goes way e (line ++ next) (is_nil other)
pair_goes way e line content next other w v m n s = λ more.
    let bare : is_first way e content (cut (next ++ more)) ≡ false = bare_first way e content (cut (next ++ more)) n (starts_line next other more v ∙ s) in
    let none : is_first way (is_nil content) other (cut more) ≡ false = later_first_none way (is_nil content) other (cut more) (begin_some way e content m) in (
      ap (front_of way e) (append_assoc line next more)
          ∙ (front_line way e line content (next ++ more) w bare ∙ (ap (λ x. line ++ x) (front_line way (is_nil content) next other more v none) ∙ sym (append_assoc line next (front_of way (is_nil other) more)))),
      ap (later_of way e) (append_assoc line next more) ∙ (later_line way e line content (next ++ more) w bare ∙ later_line way (is_nil content) next other more v none),
    )
