-- Open lines: by the last byte of a text, and where lines are put between others.
use Rattle.std.proofs.Common.{◌≡◌, ◌==◌, ◌&&◌, ◌||◌, ◌<◌, ◌++◌, ℕ, Bool, true, false, not, List, [], ◌∷◌, refl, ap, sym, ◌∙◌, length, arith, length-append}
use Rattle.std.proofs.lemmas.Bool.{or_parts}
use Rattle.mk_line.specs.declared.cutting.Ending.{Ending}
use Rattle.mk_line.specs.declared.cutting.Ending.TheVariants.{Crlf, Lf, Missing}
use Rattle.mk_line.specs.Lines.{TextLine, text_line, ending_bytes, printed_line, text_of, is_open, is_nil, has_line_feed, IsLine, AreLines, ends_open}
use Rattle.mk_line.proofs.Cuts.{append_nil}
use Rattle.mk_decide.specs.Reasons.{is_open_early}

abbrev pub has_line : List TextLine → Bool
has_line ls = not (is_nil ls)

-- the last line is open
abbrev pub last_open : List TextLine → Bool
last_open [] = false
last_open (l ∷ []) = is_open l.ending
last_open (l ∷ m ∷ ls) = last_open (m ∷ ls)

-- the last byte of bytes that others stand before
pub ends_after : (us : List ℕ) (b : ℕ) (bs : List ℕ) → ends_open (us ++ (b ∷ bs)) ≡ ends_open (b ∷ bs)
ends_after [] b bs = refl
ends_after (a ∷ []) b bs = refl
ends_after (a ∷ c ∷ us) b bs = ends_after (c ∷ us) b bs

-- bytes without a line feed end open
no_feed_open : (b : ℕ) (bs : List ℕ) → has_line_feed (b ∷ bs) ≡ false → ends_open (b ∷ bs) ≡ true
no_feed_open b [] h = ap not (or_parts (b == 10) false h).0
no_feed_open b (c ∷ bs) h = no_feed_open c bs (or_parts (b == 10) (has_line_feed (c ∷ bs)) h).1

nil_full : {A : Type 0} → is_nil {X = ℕ} [] ≡ false → A
nil_full e = cc

open_content : (content : List ℕ) → IsLine (text_line content Missing) → ends_open content ≡ true
open_content [] h = nil_full h.ends_well
open_content (b ∷ bs) h = no_feed_open b bs h.no_feed

open_line : (content : List ℕ) (e : Ending) → IsLine (text_line content e) → ends_open (content ++ ending_bytes e) ≡ is_open e
open_line content Crlf h = ends_after content 13 (10 ∷ [])
open_line content Lf h = ends_after content 10 []
open_line content Missing h = ap ends_open (append_nil content) ∙ open_content content h

-- a line has a byte
some_bytes : (content : List ℕ) (e : Ending) → IsLine (text_line content e) → 0 < length (content ++ ending_bytes e)
some_bytes content Crlf h = omega (arith, length-append content (13 ∷ 10 ∷ []))
some_bytes content Lf h = omega (arith, length-append content (10 ∷ []))
some_bytes [] Missing h = nil_full h.ends_well
some_bytes (b ∷ bs) Missing h = omega arith

pub some_text : (l : TextLine) (ls : List TextLine) → IsLine l → 0 < length (text_of (l ∷ ls))
some_text l ls h = omega (arith, some_bytes l.content l.ending h, length-append (printed_line l) (text_of ls))

after_some : (us bs : List ℕ) → 0 < length bs → ends_open (us ++ bs) ≡ ends_open bs
after_some us [] h = let none : 0 < 0 = h in absurd (omega arith)
after_some us (b ∷ bs) h = ends_after us b bs

-- the last byte of lines tells whether the last is open
pub open_text : (l : TextLine) (ls : List TextLine) → AreLines (l ∷ ls) → ends_open (text_of (l ∷ ls)) ≡ last_open (l ∷ ls)
open_text l [] h = ap ends_open (append_nil (printed_line l)) ∙ open_line l.content l.ending h.0
open_text l (m ∷ ls) h = after_some (printed_line l) (text_of (m ∷ ls)) (some_text m ls h.2.0) ∙ open_text m ls h.2

-- an open line that isn't the last, in two lists one after the other
pub or_assoc : (a b c : Bool) → ((a || b) || c) ≡ (a || (b || c))
or_assoc true b c = refl
or_assoc false b c = refl

and_one : (a : Bool) → (a && true) ≡ a
and_one true = refl
and_one false = refl

early_one : (a : Bool) → false ≡ (false || ((a && false) || false))
early_one true = refl
early_one false = refl

pub early_join : (xs ys : List TextLine) → is_open_early (xs ++ ys) ≡ (is_open_early xs || ((last_open xs && has_line ys) || is_open_early ys))
early_join [] ys = refl
early_join (x ∷ []) [] = early_one (is_open x.ending)
early_join (x ∷ []) (y ∷ ys) = ap (λ t. t || is_open_early (y ∷ ys)) (sym (and_one (is_open x.ending)))
early_join (x ∷ z ∷ xs) ys = ap (λ t. is_open x.ending || t) (early_join (z ∷ xs) ys) ∙ sym (or_assoc (is_open x.ending) (is_open_early (z ∷ xs)) ((last_open (z ∷ xs) && has_line ys) || is_open_early ys))

closed_open : (e : Ending) → (e ≡ Missing → ⊥) → is_open e ≡ false
closed_open Crlf h = refl
closed_open Lf h = refl
closed_open Missing h = absurd (h refl)

some_nil : (l : TextLine) (ls : List TextLine) → l ∷ ls ≡ [] → ⊥
some_nil l ls e = cc

pub early_none : (ls : List TextLine) → AreLines ls → is_open_early ls ≡ false
early_none [] h = refl
early_none (l ∷ []) h = refl
early_none (l ∷ m ∷ ls) h = rw (closed_open l.ending (λ e. some_nil m ls (h.1 e))) (early_none (m ∷ ls) h.2)

has_more : (g ys : List TextLine) → has_line g ≡ true → has_line (g ++ ys) ≡ true
has_more [] ys h = cc
has_more (l ∷ g) ys h = refl

pub or_none : (a : Bool) → (a || false) ≡ a
or_none true = refl
or_none false = refl

-- lines put between others
pub early_put : (xs g ys : List TextLine) → AreLines (xs ++ ys) → AreLines g → has_line g ≡ true → is_open_early (xs ++ (g ++ ys)) ≡ (last_open xs || (last_open g && has_line ys))
early_put xs g ys h k o =
    let p = or_parts (is_open_early xs) ((last_open xs && has_line ys) || is_open_early ys) (sym (early_join xs ys) ∙ early_none (xs ++ ys) h) in
    let q = or_parts (last_open xs && has_line ys) (is_open_early ys) p.1 in
    early_join xs (g ++ ys) ∙ rw (p.0, has_more g ys o, and_one (last_open xs), early_join g ys, early_none g k, q.1) (ap (λ t. last_open xs || t) (or_none (last_open g && has_line ys)))

-- each line by itself, and then all lines
abbrev pub Each : List TextLine → Type 0
Each [] = Unit {0}
Each (l ∷ ls) = IsLine l × Each ls

pub each_line : (ls : List TextLine) → AreLines ls → Each ls
each_line [] h = tt
each_line (l ∷ ls) h = (h.0, each_line ls h.2)

pub each_join : (xs ys : List TextLine) → Each xs → Each ys → Each (xs ++ ys)
each_join [] ys h k = k
each_join (x ∷ xs) ys h k = (h.0, each_join xs ys h.1 k)

pub each_front : (xs ys : List TextLine) → Each (xs ++ ys) → Each xs
each_front [] ys h = tt
each_front (x ∷ xs) ys h = (h.0, each_front xs ys h.1)

pub each_back : (xs ys : List TextLine) → Each (xs ++ ys) → Each ys
each_back [] ys h = h
each_back (x ∷ xs) ys h = each_back xs ys h.1

not_open : (e : Ending) → is_open e ≡ false → e ≡ Missing → ⊥
not_open Crlf h q = cc
not_open Lf h q = cc
not_open Missing h q = cc

pub are_lines : (ls : List TextLine) → Each ls → is_open_early ls ≡ false → AreLines ls
are_lines [] h o = tt
are_lines (l ∷ []) h o = (h.0, (λ e. refl), tt)
are_lines (l ∷ m ∷ ls) h o =
    let p = or_parts (is_open l.ending) (is_open_early (m ∷ ls)) o in
    (h.0, (λ e. absurd (not_open l.ending p.0 e)), are_lines (m ∷ ls) h.1 p.1)

pub lines_front : (xs ys : List TextLine) → AreLines (xs ++ ys) → AreLines xs
lines_front xs ys h =
    are_lines xs (each_front xs ys (each_line (xs ++ ys) h))
    (or_parts (is_open_early xs) ((last_open xs && has_line ys) || is_open_early ys) (sym (early_join xs ys) ∙ early_none (xs ++ ys) h)).0
