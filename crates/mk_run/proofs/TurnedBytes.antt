-- Texts whose lines get another ending are bytes, where they were.
use Rattle.std.proofs.Common.{◌<◌, ◌++◌, if◌then◌else◌, ℕ, zero, suc, Bool, true, false, List, [], ◌∷◌, sym, subst, inl, inr, map, arith}
use Rattle.std.proofs.lemmas.Bool.{cases_Bool}
use Rattle.mk_line.specs.declared.cutting.Ending.{Ending}
use Rattle.mk_line.specs.declared.cutting.Ending.TheVariants.{Crlf, Lf, Missing}
use Rattle.mk_line.specs.Lines.{TextLine, cut, ending_bytes, text_of}
use Rattle.mk_line.proofs.Cuts.{text_cut}
use Rattle.mk_mail.specs.BuiltLaws.{AreBytes}
use Rattle.mk_script.specs.Endings.{content_before, turned_ending, turned_line, turned_to, without_returns}
use Rattle.mk_script.proofs.TurnedLines.{are_returns}
use Rattle.mk_expand.specs.Pieces.{Pieces, piece_lines, piece_text}
use Rattle.mk_expand.specs.Words.{attached_bytes}
use Rattle.mk_pack.specs.Parts.{is_text}

-- each of them is a byte
AllBytes : List ℕ → Type 0
AllBytes [] = Unit {0}
AllBytes (c ∷ cs) = (c < 256) × AllBytes cs

all_bytes : (cs : List ℕ) → AreBytes cs → AllBytes cs
unfolding AllBytes
all_bytes [] h = tt
all_bytes (c ∷ cs) h = (h 0, all_bytes cs (λ k. h (suc k)))

are_bytes : (cs : List ℕ) → AllBytes cs → AreBytes cs
unfolding AllBytes
are_bytes [] h k = omega arith
are_bytes (c ∷ cs) h zero = h.0
are_bytes (c ∷ cs) h (suc k) = are_bytes cs h.1 k

both_bytes : (xs ys : List ℕ) → AllBytes xs → AllBytes ys → AllBytes (xs ++ ys)
unfolding AllBytes
both_bytes [] ys h k = k
both_bytes (x ∷ xs) ys h k = (h.0, both_bytes xs ys h.1 k)

front_bytes : (xs ys : List ℕ) → AllBytes (xs ++ ys) → AllBytes xs
unfolding AllBytes
front_bytes [] ys h = tt
front_bytes (x ∷ xs) ys h = (h.0, front_bytes xs ys h.1)

back_bytes : (xs ys : List ℕ) → AllBytes (xs ++ ys) → AllBytes ys
unfolding AllBytes
back_bytes [] ys h = h
back_bytes (x ∷ xs) ys h = back_bytes xs ys h.1

-- lines
ending_are : (eol : Ending) → AllBytes (ending_bytes eol)
unfolding AllBytes
ending_are Crlf = (omega arith, (omega arith, tt))
ending_are Lf = (omega arith, tt)
ending_are Missing = tt

without_are : (cs : List ℕ) → AllBytes cs → AllBytes (without_returns cs)
unfolding AllBytes
without_are [] h = tt
without_are (c ∷ cs) h = elim (cases_Bool (are_returns (c ∷ cs))) [
  | inl all ↦ rw all tt
  | inr some ↦ rw some (h.0, without_are cs h.1)
]

content_are : (eol : Ending) (cs : List ℕ) → AllBytes cs → AllBytes (content_before eol cs)
content_are Crlf cs h = h
content_are Lf cs h = without_are cs h
content_are Missing cs h = h

lines_are : (eol : Ending) (ls : List TextLine) → AllBytes (text_of ls) → AllBytes (text_of (map (turned_line eol) ls))
lines_are eol [] h = h
lines_are eol (l ∷ ls) h =
    let line = front_bytes (l.content ++ ending_bytes l.ending) (text_of ls) h in
    let content = front_bytes l.content (ending_bytes l.ending) line in
    let turned = turned_ending eol l.ending in
    both_bytes (content_before turned l.content ++ ending_bytes turned) (text_of (map (turned_line eol) ls)) (both_bytes (content_before turned l.content) (ending_bytes turned) (content_are turned l.content content) (ending_are turned))
    (lines_are eol ls (back_bytes (l.content ++ ending_bytes l.ending) (text_of ls) h))

turned_are : (eol : Ending) (text : List ℕ) → AreBytes text → AreBytes (turned_to eol text)
turned_are eol text h = are_bytes (turned_to eol text) (lines_are eol (cut text) (subst AllBytes (sym (text_cut text)) (all_bytes text h)))

-- what is attached of a piece
by_turned : (t : Bool) (eol : Ending) (text : List ℕ) → AreBytes text → AreBytes (if t then turned_to eol text else text)
by_turned true eol text h = turned_are eol text h
by_turned false eol text h = h

pub lines_given : (pieces : Pieces) (eol : Ending) (piece : ℕ) → AreBytes (piece_text pieces piece) → AreBytes (piece_lines pieces eol piece)
lines_given pieces eol piece h = by_turned pieces.turned eol (piece_text pieces piece) h

by_text : (t : Bool) (xs ys : List ℕ) → AreBytes xs → AreBytes ys → AreBytes (if t then xs else ys)
by_text true xs ys h k = h
by_text false xs ys h k = k

pub attached_are : (pieces : Pieces) (eol : Ending) (media : List ℕ) (piece : ℕ) → AreBytes (piece_text pieces piece) → AreBytes (attached_bytes pieces eol media piece)
attached_are pieces eol media piece h = by_text (is_text media) (piece_lines pieces eol piece) (piece_text pieces piece) (lines_given pieces eol piece h) h
