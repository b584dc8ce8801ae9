-- Messages of a mailbox by whole lines: a line belongs to a message, or begins the next one.
use Rattle.mk_mailbox.specs.declared.from_lines.FromLines.{FromLines}
use Rattle.std.proofs.Common.{◌≡◌, ◌==◌, ◌<◌, ◌++◌, if◌then◌else◌, ℕ, Bool, true, false, List, [], ◌∷◌, refl, ap, sym, ◌∙◌, map, length, length-append, append-nil, arith}
use Rattle.std.proofs.lemmas.Bool.{or_parts}
use Rattle.mk_line.specs.declared.cutting.Ending.{Ending}
use Rattle.mk_line.specs.declared.cutting.Ending.TheVariants.{Crlf, Lf, Missing}
use Rattle.mk_line.specs.Lines.{TextLine, cut, ended, has_line_feed, is_nil, is_open, printed_line, text_line, text_of, with_byte}
use Rattle.mk_line.proofs.Cuts.{cut_other, text_cut}
use Rattle.mk_mailbox.specs.inner.Gathered.{IsWholeLine, front_of, later_of}
use Rattle.mk_line.specs.Kinds.{is_field_start}
use Rattle.mk_mailbox.specs.Pieces.{is_first, front, later, parted, mailbox_pieces, starts_field}
use Rattle.mk_mailbox.specs.inner.Parts.{IsOpenInFront}

-- a line with its line feed, and what follows it
pub cut_line : (before more : List ℕ) → has_line_feed before ≡ false → cut ((before ++ 10 ∷ []) ++ more) ≡ ended before ∷ cut more
cut_line [] more h = refl
cut_line (byte ∷ bytes) more h =
    let f = or_parts (byte == 10) (has_line_feed bytes) h in
    rw (cut_other byte ((bytes ++ 10 ∷ []) ++ more) f.0, cut_line bytes more f.1) refl

printed_ended : (before : List ℕ) → has_line_feed before ≡ false → printed_line (ended before) ≡ before ++ 10 ∷ []
printed_ended before h =
    sym (append-nil (printed_line (ended before)))
    ∙ (ap text_of (sym (cut_line before [] h)) ∙ (text_cut ((before ++ 10 ∷ []) ++ []) ∙ append-nil (before ++ 10 ∷ [])))

closed_if : (t : Bool) (byte : ℕ) → is_open (if t then text_line [] Crlf else text_line (byte ∷ []) Lf).ending ≡ false
closed_if true byte = refl
closed_if false byte = refl

closed_with : (byte : ℕ) (content : List ℕ) (e : Ending) → is_open e ≡ false → is_open (with_byte byte (text_line content e)).ending ≡ false
closed_with byte content Crlf h = refl
closed_with byte [] Lf h = closed_if (byte == 13) byte
closed_with byte (next ∷ bytes) Lf h = refl
closed_with byte content Missing h = h

closed_ended : (before : List ℕ) → is_open (ended before).ending ≡ false
closed_ended [] = refl
closed_ended (byte ∷ bytes) = closed_with byte (ended bytes).content (ended bytes).ending (closed_ended bytes)

whole_cut : (line content more : List ℕ) (w : IsWholeLine line content) → cut (line ++ more) ≡ ended w.before ∷ cut more
whole_cut line content more w = ap (λ t. cut (t ++ more)) w.parts ∙ cut_line w.before more w.no_feed

-- a line with its line feed isn't open
pub whole_closed : (line content more : List ℕ) → IsWholeLine line content → IsOpenInFront (cut (line ++ more)) → ⊥
whole_closed line content more w h =
    let o : IsOpenInFront (ended w.before ∷ cut more) = rw (whole_cut line content more w) at h in
    open_closed (is_open (ended w.before).ending) o (closed_ended w.before)
  where
    open_closed : (t : Bool) → t ≡ true → t ≡ false → ⊥
    open_closed true a b = cc
    open_closed false a b = cc

pub whole_some : (line content : List ℕ) → IsWholeLine line content → 0 < length line
whole_some line content w = let e : length line ≡ length (w.before ++ 10 ∷ []) = ap length w.parts in omega (arith, e, length-append w.before (10 ∷ []))

-- by its content a line belongs to the message, or begins the next one
front_stays : (way : FromLines) (e : Bool) (l : TextLine) (ls : List TextLine) → is_first way e l.content ls ≡ false → text_of (front way e (l ∷ ls)) ≡ printed_line l ++ text_of (front way (is_nil l.content) ls)
front_stays way e l ls t = rw t refl

later_stays : (way : FromLines) (e : Bool) (l : TextLine) (ls : List TextLine) → is_first way e l.content ls ≡ false → map text_of (later way e (l ∷ ls)) ≡ map text_of (later way (is_nil l.content) ls)
later_stays way e l ls t = rw t refl

front_begins : (way : FromLines) (e : Bool) (l : TextLine) (ls : List TextLine) → is_first way e l.content ls ≡ true → text_of (front way e (l ∷ ls)) ≡ []
front_begins way e l ls t = rw t refl

later_begins : (way : FromLines) (e : Bool) (l : TextLine) (ls : List TextLine) → is_first way e l.content ls ≡ true → map text_of (later way e (l ∷ ls)) ≡ map text_of (parted way (l ∷ ls))
later_begins way e l ls t = rw t refl

line_is : (line content : List ℕ) (w : IsWholeLine line content) → printed_line (ended w.before) ≡ line
line_is line content w = printed_ended w.before w.no_feed ∙ sym w.parts

first_is : (way : FromLines) (e : Bool) (t : Bool) (line content more : List ℕ) (w : IsWholeLine line content) → is_first way e content (cut more) ≡ t → is_first way e (ended w.before).content (cut more) ≡ t
first_is way e t line content more w h = ap (λ c. is_first way e c (cut more)) (sym w.content_is) ∙ h

pub front_line : (way : FromLines) (e : Bool) (line content more : List ℕ) → IsWholeLine line content → is_first way e content (cut more) ≡ false → front_of way e (line ++ more) ≡ line ++ front_of way (is_nil content) more
front_line way e line content more w t =
    ap (λ ls. text_of (front way e ls)) (whole_cut line content more w)
    ∙ (front_stays way e (ended w.before) (cut more) (first_is way e false line content more w t)
    ∙ (ap (λ x. x ++ front_of way (is_nil (ended w.before).content) more) (line_is line content w)
    ∙ ap (λ c. line ++ front_of way (is_nil c) more) (sym w.content_is)))

pub later_line : (way : FromLines) (e : Bool) (line content more : List ℕ) → IsWholeLine line content → is_first way e content (cut more) ≡ false → later_of way e (line ++ more) ≡ later_of way (is_nil content) more
later_line way e line content more w t =
    ap (λ ls. map text_of (later way e ls)) (whole_cut line content more w)
    ∙ (later_stays way e (ended w.before) (cut more) (first_is way e false line content more w t)
    ∙ ap (λ c. later_of way (is_nil c) more) (sym w.content_is))

pub front_first : (way : FromLines) (e : Bool) (line content more : List ℕ) → IsWholeLine line content → is_first way e content (cut more) ≡ true → front_of way e (line ++ more) ≡ []
front_first way e line content more w t =
    ap (λ ls. text_of (front way e ls)) (whole_cut line content more w) ∙ front_begins way e (ended w.before) (cut more) (first_is way e true line content more w t)

pub later_first : (way : FromLines) (e : Bool) (line content more : List ℕ) → IsWholeLine line content → is_first way e content (cut more) ≡ true → later_of way e (line ++ more) ≡ mailbox_pieces way (line ++ more)
later_first way e line content more w t =
    ap (λ ls. map text_of (later way e ls)) (whole_cut line content more w)
    ∙ (later_begins way e (ended w.before) (cut more) (first_is way e true line content more w t)
    ∙ ap (λ ls. map text_of (parted way ls)) (sym (whole_cut line content more w)))

-- the first message, and those after it
parted_some : (way : FromLines) (ls : List TextLine) → 0 < length (text_of ls) → map text_of (parted way ls) ≡ text_of (front way false ls) ∷ map text_of (later way false ls)
parted_some way [] h = absurd (omega (arith, h))
parted_some way (l ∷ ls) h = refl

pub pieces_of : (way : FromLines) (text : List ℕ) → 0 < length text → mailbox_pieces way text ≡ front_of way false text ∷ later_of way false text
pieces_of way text h = let e : length (text_of (cut text)) ≡ length text = ap length (text_cut text) in parted_some way (cut text) (omega (arith, e, h))

-- the line that comes next is a field start, or not
pub starts_line : (line content more : List ℕ) → IsWholeLine line content → starts_field (cut (line ++ more)) ≡ is_field_start content
starts_line line content more w = ap starts_field (whole_cut line content more w) ∙ ap is_field_start (sym w.content_is)
