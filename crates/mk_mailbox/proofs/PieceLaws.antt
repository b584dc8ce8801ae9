-- The messages of a mailbox are all of it, and none is empty or cut again.
use Rattle.mk_mailbox.specs.declared.from_lines.FromLines.{FromLines}
use Rattle.std.proofs.Common.{◌≡◌, ◌<◌, ◌&&◌, ◌++◌, ℕ, Bool, false, List, [], ◌∷◌, refl, ap, sym, ◌∙◌, inl, inr, map, length, length-append, append_assoc, arith}
use Rattle.std.specs.List.{flat_map}
use Rattle.std.proofs.lemmas.Bool.{cases_Bool}
use Rattle.mk_line.specs.declared.cutting.Ending.{Ending}
use Rattle.mk_line.specs.declared.cutting.Ending.TheVariants.{Crlf, Lf, Missing}
use Rattle.mk_line.specs.Lines.{AreLines, IsLine, TextLine, cut, is_nil, printed_line, text_line, text_of}
use Rattle.mk_line.proofs.Cuts.{cut_text, lines_cut, text_cut}
use Rattle.mk_mailbox.specs.declared.from_lines.FromLines.TheVariants.{Any, Dated, Fielded}
use Rattle.mk_mailbox.specs.Pieces.{front, is_first, is_followed, later, mailbox_pieces, may_begin, parted}
use Rattle.mk_mailbox.specs.inner.Parts.{AreOnes, AreSome}
use Rattle.mk_mailbox.proofs.LineStarts.{and_false, other_first}

abbrev joined : List (List TextLine) → List ℕ
joined ps = flat_map (λ p. p) (map text_of ps)

-- the front, and then the messages after it, are all lines
front_and_later : (way : FromLines) (e : Bool) (ls : List TextLine) → text_of (front way e ls) ++ joined (later way e ls) ≡ text_of ls
front_and_later way e [] = refl
front_and_later way e (l ∷ ls) =
    let rest = front_and_later way (is_nil l.content) ls in
    let line = append_assoc (printed_line l) (text_of (front way (is_nil l.content) ls)) (joined (later way (is_nil l.content) ls)) in
    elim (cases_Bool (is_first way e l.content ls)) [
      | inl t ↦ rw t (line ∙ ap (λ x. printed_line l ++ x) rest)
      | inr n ↦ rw n (line ∙ ap (λ x. printed_line l ++ x) rest)
    ]

parted_all : (way : FromLines) (ls : List TextLine) → joined (parted way ls) ≡ text_of ls
parted_all way [] = refl
parted_all way (l ∷ ls) =
    append_assoc (printed_line l) (text_of (front way (is_nil l.content) ls)) (joined (later way (is_nil l.content) ls)) ∙ ap (λ x. printed_line l ++ x) (front_and_later way (is_nil l.content) ls)

pub all_pieces : (way : FromLines) (text : List ℕ) → flat_map (λ p. p) (mailbox_pieces way text) ≡ text
all_pieces way text = parted_all way (cut text) ∙ text_cut text

-- no line is empty
some_line : (content : List ℕ) (e : Ending) → IsLine (text_line content e) → 0 < length (printed_line (text_line content e))
some_line content Crlf h = omega (arith, length-append content (13 ∷ 10 ∷ []))
some_line content Lf h = omega (arith, length-append content (10 ∷ []))
some_line [] Missing h = let none = h.ends_well in cc
some_line (byte ∷ bytes) Missing h = omega arith

some_lines : (l : TextLine) (ls : List TextLine) → IsLine l → 0 < length (text_of (l ∷ ls))
some_lines l ls h = omega (arith, some_line l.content l.ending h, length-append (printed_line l) (text_of ls))

some_later : (way : FromLines) (e : Bool) (ls : List TextLine) → AreLines ls → AreSome (map text_of (later way e ls))
some_later way e [] h = tt
some_later way e (l ∷ ls) h =
    let rest = some_later way (is_nil l.content) ls h.2 in
    elim (cases_Bool (is_first way e l.content ls)) [
      | inl t ↦ rw t (some_lines l (front way (is_nil l.content) ls) h.0, rest)
      | inr n ↦ rw n rest
    ]

some_parted : (way : FromLines) (ls : List TextLine) → AreLines ls → AreSome (map text_of (parted way ls))
some_parted way [] h = tt
some_parted way (l ∷ ls) h = (some_lines l (front way (is_nil l.content) ls) h.0, some_later way (is_nil l.content) ls h.2)

pub some_pieces : (way : FromLines) (text : List ℕ) → AreSome (mailbox_pieces way text)
some_pieces way text = some_parted way (cut text) (lines_cut text)

-- the lines of a message are the lines of its text
pub lines_front : (way : FromLines) (e : Bool) (ls : List TextLine) → AreLines ls → AreLines (front way e ls)
lines_front way e [] h = tt
lines_front way e (l ∷ ls) h =
    let rest = lines_front way (is_nil l.content) ls h.2 in
    elim (cases_Bool (is_first way e l.content ls)) [
      | inl t ↦ rw t tt
      | inr n ↦ rw n (h.0, (λ o. ap (front way (is_nil l.content)) (h.1 o)), rest)
    ]

belongs : (way : FromLines) (e : Bool) (l : TextLine) (ls : List TextLine) → is_first way e l.content ls ≡ false → front way e (l ∷ ls) ≡ l ∷ front way (is_nil l.content) ls
belongs way e l ls n = rw n refl

skips : (way : FromLines) (e : Bool) (l : TextLine) (ls : List TextLine) → is_first way e l.content ls ≡ false → later way e (l ∷ ls) ≡ later way (is_nil l.content) ls
skips way e l ls n = rw n refl

-- the line that comes next in the message is the one that comes next
still_followed : (way : FromLines) (e : Bool) (ls : List TextLine) → is_followed way ls ≡ false → is_followed way (front way e ls) ≡ false
still_followed way e [] f = f
still_followed way e (l ∷ ls) f =
    elim (cases_Bool (is_first way e l.content ls)) [
      | inl t ↦ rw t (none_followed way (l ∷ ls) f)
      | inr n ↦ rw n f
    ]
  where
    none_followed : (way : FromLines) (ls : List TextLine) → is_followed way ls ≡ false → is_followed way [] ≡ false
    none_followed Any ls f = f
    none_followed Dated ls f = f
    none_followed Fielded ls f = refl

pub still_belongs : (way : FromLines) (e d : Bool) (content : List ℕ) (ls : List TextLine) → is_first way e content ls ≡ false → is_first way e content (front way d ls) ≡ false
still_belongs way e d content ls n =
    elim (cases_Bool (may_begin way e content)) [
      | inl m ↦
          let bare : is_followed way ls ≡ false = ap (λ t. t && is_followed way ls) (sym m) ∙ n in
          rw (still_followed way d ls bare) (and_false (may_begin way e content))
      | inr m ↦ other_first way e content (front way d ls) m
    ]

-- no line of a message begins another
front_again : (way : FromLines) (e : Bool) (ls : List TextLine) → front way e (front way e ls) ≡ front way e ls
front_again way e [] = refl
front_again way e (l ∷ ls) =
    elim (cases_Bool (is_first way e l.content ls)) [
      | inl t ↦ rw t refl
      | inr n ↦
          let still = still_belongs way e (is_nil l.content) l.content ls n in
          ap (front way e) (belongs way e l ls n)
          ∙ (belongs way e l (front way (is_nil l.content) ls) still ∙ (ap (λ (xs : List TextLine). l ∷ xs) (front_again way (is_nil l.content) ls) ∙ sym (belongs way e l ls n)))
    ]

later_again : (way : FromLines) (e : Bool) (ls : List TextLine) → later way e (front way e ls) ≡ []
later_again way e [] = refl
later_again way e (l ∷ ls) =
    elim (cases_Bool (is_first way e l.content ls)) [
      | inl t ↦ rw t refl
      | inr n ↦
          let still = still_belongs way e (is_nil l.content) l.content ls n in
          ap (later way e) (belongs way e l ls n) ∙ (skips way e l (front way (is_nil l.content) ls) still ∙ later_again way (is_nil l.content) ls)
    ]

one_piece : (way : FromLines) (l : TextLine) (ls : List TextLine) → AreLines (l ∷ ls) → let text = text_of (l ∷ front way (is_nil l.content) ls) in mailbox_pieces way text ≡ text ∷ []
one_piece way l ls h =
    let e = is_nil l.content in
    ap (λ xs. map text_of (parted way xs)) (cut_text (l ∷ front way e ls) (h.0, (λ o. ap (front way e) (h.1 o)), lines_front way e ls h.2))
    ∙ (λ i. text_of (l ∷ front_again way e ls i) ∷ map text_of (later_again way e ls i))

ones_later : (way : FromLines) (e : Bool) (ls : List TextLine) → AreLines ls → AreOnes way (map text_of (later way e ls))
ones_later way e [] h = tt
ones_later way e (l ∷ ls) h =
    let rest = ones_later way (is_nil l.content) ls h.2 in
    elim (cases_Bool (is_first way e l.content ls)) [
      | inl t ↦ rw t (one_piece way l ls h, rest)
      | inr n ↦ rw n rest
    ]

ones_parted : (way : FromLines) (ls : List TextLine) → AreLines ls → AreOnes way (map text_of (parted way ls))
ones_parted way [] h = tt
ones_parted way (l ∷ ls) h = (one_piece way l ls h, ones_later way (is_nil l.content) ls h.2)

pub uncut_pieces : (way : FromLines) (text : List ℕ) → AreOnes way (mailbox_pieces way text)
uncut_pieces way text = ones_parted way (cut text) (lines_cut text)
