-- Whole lines of which none is a From-line belong to one message.
use Rattle.std.proofs.Common.{◌≡◌, ◌==◌, ◌&&◌, ◌<◌, ◌+◌, ◌-◌, ◌++◌, ℕ, Bool, true, false, not, List, [], ◌∷◌, refl, ap, sym, ◌∙◌, inl, inr, map, length, take, drop, slice_index, subst, length-append, append_assoc, append-nil, arith}
use Rattle.std.proofs.Math.Seq.{take-length, drop-length}
use Rattle.std.proofs.lemmas.Bool.{and_parts, or_parts, cases_Bool, eqb-true}
use Rattle.std.proofs.lemmas.Bool.Decides.{eqb_tells}
use Rattle.std.proofs.lemmas.List.{take_more}
use Rattle.mk_line.specs.declared.cutting.Ending.TheVariants.{Lf}
use Rattle.mk_line.specs.Kinds.{is_from_line}
use Rattle.mk_line.specs.Lines.{AreLines, TextLine, cut, ended, ends_open, has_line_feed, is_lf, is_nil, onto_first, text_line, text_of, with_byte}
use Rattle.mk_line.proofs.Cuts.{last_open, lines_cut, text_append, text_cut}
use Rattle.mk_mailbox.specs.declared.from_lines.FromLines.{FromLines}
use Rattle.mk_mailbox.specs.declared.from_lines.FromLines.TheVariants.{Any, Dated, Fielded}
use Rattle.mk_mailbox.specs.inner.Gathered.{AreQuiet, IsGathered, IsOnePiece, front_of, later_of, none_from}
use Rattle.mk_mailbox.specs.Pieces.{front, is_first, later, may_begin}
use Rattle.mk_mailbox.specs.Places.{ends_empty}
use Rattle.mk_mailbox.proofs.LineStarts.{other_first}
use Rattle.mk_mailbox.proofs.MessageLines.{cut_line}

-- a text of whole lines is cut apart from what follows it
some_cut : (byte : ℕ) (bytes : List ℕ) → cut (byte ∷ bytes) ≡ [] → ⊥
some_cut byte bytes e = let s : text_of (cut (byte ∷ bytes)) ≡ [] = ap text_of e in none (sym (text_cut (byte ∷ bytes)) ∙ s)
  where
    none : byte ∷ bytes ≡ [] → ⊥
    none e = cc

onto_apart : (byte : ℕ) (ls ms : List TextLine) → (ls ≡ [] → ⊥) → onto_first byte (ls ++ ms) ≡ onto_first byte ls ++ ms
onto_apart byte [] ms h = absurd (h refl)
onto_apart byte (l ∷ ls) ms h = refl

last_feed : (byte : ℕ) → not (byte == 10) ≡ false → (byte == 10) ≡ true
last_feed byte h =
    elim (cases_Bool (byte == 10)) [
      | inl t ↦ t
      | inr f ↦ let opened : not (byte == 10) ≡ true = ap not f in cc
    ]

pub cut_whole_lines : (text more : List ℕ) → ends_open text ≡ false → cut (text ++ more) ≡ cut text ++ cut more
cut_whole_lines [] more h = refl
cut_whole_lines (byte ∷ []) more h = rw (last_feed byte h) refl
cut_whole_lines (byte ∷ next ∷ bytes) more h =
    let rest = cut_whole_lines (next ∷ bytes) more h in
    elim (eqb_tells byte 10) [
      | inl t ↦ rw t.0 (ap (λ (ls : List TextLine). text_line [] Lf ∷ ls) rest)
      | inr f ↦ rw f.0 (ap (onto_first byte) rest ∙ onto_apart byte (cut (next ∷ bytes)) (cut more) (some_cut next bytes))
    ]

-- a line that is no From-line begins no message
and_none : (t : Bool) → (t && false) ≡ false
and_none true = refl
and_none false = refl

quiet_begin : (way : FromLines) (e : Bool) (content : List ℕ) → is_from_line content ≡ false → may_begin way e content ≡ false
quiet_begin Any e content h = rw h (and_none e)
quiet_begin Dated e content h = rw h (and_none e)
quiet_begin Fielded e content h = rw h (and_none e)

quiet_first : (way : FromLines) (e : Bool) (content : List ℕ) (ls : List TextLine) → is_from_line content ≡ false → is_first way e content ls ≡ false
quiet_first way e content ls h = other_first way e content ls (quiet_begin way e content h)

not_true : (t : Bool) → not t ≡ true → t ≡ false
not_true true h = cc
not_true false h = refl

quiet_parts : (l : TextLine) (ls : List TextLine) → none_from (l ∷ ls) ≡ true → (is_from_line l.content ≡ false) × (none_from ls ≡ true)
quiet_parts l ls h = let both = and_parts (not (is_from_line l.content)) (none_from ls) h in (not_true (is_from_line l.content) both.0, both.1)

front_quiet : (way : FromLines) (e : Bool) (ls ms : List TextLine) → none_from ls ≡ true → front way e (ls ++ ms) ≡ ls ++ front way (ends_empty e ls) ms
front_quiet way e [] ms h = refl
front_quiet way e (l ∷ ls) ms h =
    let both = quiet_parts l ls h in
    rw (quiet_first way e l.content (ls ++ ms) both.0) (ap (λ (xs : List TextLine). l ∷ xs) (front_quiet way (is_nil l.content) ls ms both.1))

later_quiet : (way : FromLines) (e : Bool) (ls ms : List TextLine) → none_from ls ≡ true → later way e (ls ++ ms) ≡ later way (ends_empty e ls) ms
later_quiet way e [] ms h = refl
later_quiet way e (l ∷ ls) ms h =
    let both = quiet_parts l ls h in
    rw (quiet_first way e l.content (ls ++ ms) both.0) (later_quiet way (is_nil l.content) ls ms both.1)

front_stretch : (way : FromLines) (e : Bool) (lines more : List ℕ) → AreQuiet lines → front_of way e (lines ++ more) ≡ lines ++ front_of way (ends_empty e (cut lines)) more
front_stretch way e lines more q =
    let after = front way (ends_empty e (cut lines)) (cut more) in
    ap (λ ls. text_of (front way e ls)) (cut_whole_lines lines more q.whole)
    ∙ (ap text_of (front_quiet way e (cut lines) (cut more) q.quiet)
    ∙ (text_append (cut lines) after ∙ ap (λ x. x ++ text_of after) (text_cut lines)))

later_stretch : (way : FromLines) (e : Bool) (lines more : List ℕ) → AreQuiet lines → later_of way e (lines ++ more) ≡ later_of way (ends_empty e (cut lines)) more
later_stretch way e lines more q =
    ap (λ ls. map text_of (later way e ls)) (cut_whole_lines lines more q.whole)
    ∙ ap (λ ps. map text_of ps) (later_quiet way e (cut lines) (cut more) q.quiet)

-- a stretch more
one_piece_over : (way : FromLines) (text lines : List ℕ) (e : Bool) → IsOnePiece way text e → AreQuiet lines → IsOnePiece way (text ++ lines) (ends_empty e (cut lines))
one_piece_over way text lines e one q = λ more. (
  ap (front_of way false) (append_assoc text lines more)
      ∙ ((one (lines ++ more)).0 ∙ (ap (λ x. text ++ x) (front_stretch way e lines more q) ∙ sym (append_assoc text lines (front_of way (ends_empty e (cut lines)) more)))),
  ap (later_of way false) (append_assoc text lines more) ∙ ((one (lines ++ more)).1 ∙ later_stretch way e lines more q),
)

-- whether the last line is empty, where there is one
some_ends : (e : Bool) (ls : List TextLine) → (ls ≡ [] → ⊥) → ends_empty e ls ≡ ends_empty false ls
some_ends e [] h = absurd (h refl)
some_ends e (l ∷ ls) h = refl

stretch_ends : (e : Bool) (lines : List ℕ) → 0 < length lines → ends_empty e (cut lines) ≡ ends_empty false (cut lines)
stretch_ends e [] h = let none : 0 < 0 = h in absurd (omega arith)
stretch_ends e (byte ∷ bytes) h = some_ends e (cut (byte ∷ bytes)) (some_cut byte bytes)

pub stretch_on : (way : FromLines) (bytes lines : List ℕ) (start line : ℕ) (e : Bool) → IsGathered way bytes start line e → start ≡ length bytes → AreQuiet lines → 0 < length lines
    → IsGathered way (bytes ++ lines) (length (bytes ++ lines)) (length (bytes ++ lines)) (ends_empty false (cut lines))
stretch_on way bytes lines start line e g between q some =
    let before : IsOnePiece way bytes e = subst (λ text. IsOnePiece way text e) (ap (λ n. take n bytes) between ∙ take-length bytes) g.before in
    let over : IsOnePiece way (bytes ++ lines) (ends_empty false (cut lines)) = subst (IsOnePiece way (bytes ++ lines)) (stretch_ends e lines some) (one_piece_over way bytes lines e before q) in
    record {
      ordered = omega arith;
      within = omega arith;
      before = subst (λ text. IsOnePiece way text (ends_empty false (cut lines))) (sym (take-length (bytes ++ lines))) over;
      between = inl (ap (drop (length (bytes ++ lines))) (take-length (bytes ++ lines)) ∙ drop-length (bytes ++ lines));
      following = inl (ap has_line_feed (drop-length (bytes ++ lines)));
      some = λ _. omega (arith, some, length-append bytes lines);
    }

pub nothing_left : (bytes : List ℕ) (line : ℕ) → line ≡ length bytes → has_line_feed (drop line bytes) ≡ false
nothing_left bytes line e = ap (λ n. has_line_feed (drop n bytes)) e ∙ ap has_line_feed (drop-length bytes)

-- ---- the last line is empty where nothing of its content stands after the feed before it

ends_with : (e : Bool) (ls : List TextLine) (l : TextLine) → ends_empty e (ls ++ l ∷ []) ≡ is_nil l.content
ends_with e [] l = refl
ends_with e (m ∷ ls) l = ends_with (is_nil m.content) ls l

with_some : (byte : ℕ) (l : TextLine) → is_nil l.content ≡ false → (with_byte byte l).content ≡ byte ∷ l.content
with_some byte l h = rw (h, and_none (is_lf l.ending)) refl

with_feed : (l : TextLine) → (with_byte 10 l).content ≡ 10 ∷ l.content
with_feed l = rw (and_none (is_lf l.ending && is_nil l.content)) refl

-- bytes up to a feed belong to the content of the line that follows them
after_feed : (front last : List ℕ) → (ended (front ++ 10 ∷ last)).content ≡ front ++ 10 ∷ (ended last).content
after_feed [] last = with_feed (ended last)
after_feed (byte ∷ front) last =
    let again = after_feed front last in
    with_some byte (ended (front ++ 10 ∷ last)) (ap is_nil again ∙ some front (ended last).content) ∙ ap (λ (xs : List ℕ). byte ∷ xs) again
  where
    some : (front last : List ℕ) → is_nil (front ++ 10 ∷ last) ≡ false
    some [] last = refl
    some (x ∷ front) last = refl

open_after : (front last : List ℕ) → has_line_feed last ≡ false → not (ends_open (front ++ 10 ∷ last)) ≡ is_nil last
open_after [] [] h = refl
open_after [] (byte ∷ []) h = ap (λ t. not (not t)) (or_parts (byte == 10) false h).0
open_after [] (byte ∷ next ∷ bytes) h = open_after [] (next ∷ bytes) (or_parts (byte == 10) (has_line_feed (next ∷ bytes)) h).1
open_after (x ∷ []) last h = open_after [] last h
open_after (x ∷ y ∷ front) last h = open_after (y ∷ front) last h

open_alone : (line : List ℕ) → has_line_feed line ≡ false → not (ends_open line) ≡ is_nil line
open_alone [] h = refl
open_alone (byte ∷ bytes) h = open_after [] (byte ∷ bytes) h

-- the content of a line has no feed
no_feed_ended : (before : List ℕ) → has_line_feed before ≡ false → has_line_feed (ended before).content ≡ false
no_feed_ended before h = (subst AreLines (cut_line before [] h) (lines_cut ((before ++ 10 ∷ []) ++ []))).0.no_feed

-- a line feed at the end
pub ends_fed : (front : List ℕ) → ends_open (front ++ 10 ∷ []) ≡ false
ends_fed [] = refl
ends_fed (x ∷ []) = refl
ends_fed (x ∷ y ∷ front) = ends_fed (y ∷ front)

-- bytes up to their last feed, and after it
pub data Feeds (bytes : List ℕ) : Type 0 where
  none : has_line_feed bytes ≡ false → Feeds bytes
  some : (front last : List ℕ) → bytes ≡ front ++ 10 ∷ last → has_line_feed last ≡ false → Feeds bytes

feeds : (bytes : List ℕ) → Feeds bytes
feeds [] = none refl
feeds (byte ∷ bytes) =
    elim (feeds bytes) [
      | some front last e h ↦ some (byte ∷ front) last (ap (λ (xs : List ℕ). byte ∷ xs) e) h
      | none h ↦ elim (eqb_tells byte 10) [
        | inl t ↦ some [] bytes (ap (λ b. b ∷ bytes) t.1) h
        | inr f ↦ none (rw f.0 h)
      ]
    ]

last_is_empty : (before : List ℕ) → not (ends_open (ended before).content) ≡ ends_empty false (cut (before ++ 10 ∷ []))
last_is_empty before =
    elim (feeds before) [
      | none h ↦
          open_alone (ended before).content (no_feed_ended before h)
          ∙ sym (ap (ends_empty false) (ap cut (sym (append-nil (before ++ 10 ∷ []))) ∙ cut_line before [] h))
      | some front last e h ↦
          let apart : before ++ 10 ∷ [] ≡ (front ++ 10 ∷ []) ++ (last ++ 10 ∷ []) = ap (λ x. x ++ 10 ∷ []) e ∙ (append_assoc front (10 ∷ last) (10 ∷ []) ∙ sym (append_assoc front (10 ∷ []) (last ++ 10 ∷ []))) in
          let line : cut (last ++ 10 ∷ []) ≡ ended last ∷ [] = ap cut (sym (append-nil (last ++ 10 ∷ []))) ∙ cut_line last [] h in
          let lines : cut (before ++ 10 ∷ []) ≡ cut (front ++ 10 ∷ []) ++ ended last ∷ [] = ap cut apart ∙ (cut_whole_lines (front ++ 10 ∷ []) (last ++ 10 ∷ []) (ends_fed front) ∙ ap (λ ls. cut (front ++ 10 ∷ []) ++ ls) line) in
          ap (λ b. not (ends_open (ended b).content)) e
          ∙ (ap (λ c. not (ends_open c)) (after_feed front last)
          ∙ (open_after front (ended last).content (no_feed_ended last h)
          ∙ sym (ap (ends_empty false) lines ∙ ends_with false (cut (front ++ 10 ∷ [])) (ended last))))
    ]

front_of_lines : (lines : List ℕ) → 0 < length lines → ends_open lines ≡ false → lines ≡ take (length lines - 1) lines ++ 10 ∷ []
front_of_lines lines long whole =
    let size : (length lines - 1) + 1 ≡ length lines = omega arith in
    let feed : (slice_index lines (length lines - 1) == 10) ≡ true = last_feed (slice_index lines (length lines - 1)) (last_open lines long ∙ whole) in
    sym (ap (λ n. take n lines) size ∙ take-length lines)
    ∙ (take_more lines (length lines - 1) 0 (omega arith) ∙ ap (λ b. take (length lines - 1) lines ++ b ∷ []) (eqb-true (slice_index lines (length lines - 1)) 10 feed))

pub stretch_last : (lines content : List ℕ) → 0 < length lines → ends_open lines ≡ false → content ≡ (ended (take (length lines - 1) lines)).content → not (ends_open content) ≡ ends_empty false (cut lines)
stretch_last lines content long whole e =
    ap (λ c. not (ends_open c)) e
    ∙ (last_is_empty (take (length lines - 1) lines) ∙ ap (λ ls. ends_empty false (cut ls)) (sym (front_of_lines lines long whole)))

-- ---- an open line has a byte

onto_some : (byte : ℕ) (l : TextLine) (ls : List TextLine) → ends_empty (is_nil l.content) ls ≡ false → ends_empty (is_nil (with_byte byte l).content) ls ≡ false
onto_some byte l [] h = ap is_nil (with_some byte l h)
onto_some byte l (m ∷ ls) h = h

onto_ends : (e : Bool) (byte : ℕ) (ls : List TextLine) → ends_empty false ls ≡ false → ends_empty e (onto_first byte ls) ≡ false
onto_ends e byte [] h = refl
onto_ends e byte (l ∷ ls) h = onto_some byte l ls h

pub open_last : (e : Bool) (text : List ℕ) → ends_open text ≡ true → ends_empty e (cut text) ≡ false
open_last e [] h = cc
open_last e (byte ∷ []) h = rw (not_true (byte == 10) h) refl
open_last e (byte ∷ next ∷ bytes) h =
    elim (eqb_tells byte 10) [
      | inl t ↦ rw t.0 (open_last true (next ∷ bytes) h)
      | inr f ↦ rw f.0 (onto_ends e byte (cut (next ∷ bytes)) (open_last false (next ∷ bytes) h))
    ]
