-- The lines of texts that end with an ending, one text after another.
use Rattle.std.proofs.Common.{◌≡◌, ◌==◌, ◌&&◌, ◌++◌, if◌then◌else◌, ℕ, Bool, true, false, List, [], ◌∷◌, refl}
use Rattle.mk_line.specs.declared.cutting.Ending.{Ending}
use Rattle.mk_line.specs.declared.cutting.Ending.TheVariants.{Crlf, Lf, Missing}
use Rattle.mk_line.specs.Lines.{TextLine, text_line, ending_bytes, is_lf, is_nil, is_open, onto_first, cut, AreLines}

-- no line is open
abbrev pub AreClosed : List TextLine → Type 0
AreClosed [] = Unit {0}
AreClosed (l ∷ ls) = (is_open l.ending ≡ false) × AreClosed ls

pub closed_joined : (xs ys : List TextLine) → AreClosed xs → AreClosed ys → AreClosed (xs ++ ys)
closed_joined [] ys h k = k
closed_joined (x ∷ xs) ys h k = (h.0, closed_joined xs ys h.1 k)

-- some lines, none of which is open
abbrev pub AreSome : List TextLine → Type 0
AreSome [] = ⊥
AreSome (l ∷ ls) = AreClosed (l ∷ ls)

chosen : (t : Bool) (byte : ℕ) (l : TextLine) → is_open l.ending ≡ false → is_open (if t then text_line [] Crlf else text_line (byte ∷ l.content) l.ending).ending ≡ false
chosen true byte l h = refl
chosen false byte l h = h

closed_onto : (byte : ℕ) (ls : List TextLine) → AreSome ls → AreSome (onto_first byte ls)
closed_onto byte [] h = absurd h
closed_onto byte (l ∷ ls) h = (chosen ((is_lf l.ending && is_nil l.content) && byte == 13) byte l h.0, h.1)

pub some_closed : (ls : List TextLine) → AreSome ls → AreClosed ls
some_closed [] h = absurd h
some_closed (l ∷ ls) h = h

pub one_more : (t : Bool) (byte : ℕ) (ls : List TextLine) → AreSome ls → AreSome (if t then text_line [] Lf ∷ ls else onto_first byte ls)
one_more true byte ls h = (refl, some_closed ls h)
one_more false byte ls h = closed_onto byte ls h

-- a text with an ending after it has no open line
pub cut_ended : (text : List ℕ) (e : Ending) → is_open e ≡ false → AreSome (cut (text ++ ending_bytes e))
cut_ended [] Crlf h = (refl, tt)
cut_ended [] Lf h = (refl, tt)
cut_ended [] Missing h = absurd cc
cut_ended (byte ∷ text) e h = one_more (byte == 10) byte (cut (text ++ ending_bytes e)) (cut_ended text e h)

absurd_open : {A : Type 0} (e : Ending) → e ≡ Missing → is_open e ≡ false → A
absurd_open Crlf m h = absurd cc
absurd_open Lf m h = absurd cc
absurd_open Missing m h = absurd cc

-- closed lines with lines after them
pub lines_joined : (xs ys : List TextLine) → AreLines xs → AreClosed xs → AreLines ys → AreLines (xs ++ ys)
lines_joined [] ys h c k = k
lines_joined (x ∷ xs) ys h c k = (h.0, λ m. absurd_open x.ending m c.0, lines_joined xs ys h.2 c.1 k)
