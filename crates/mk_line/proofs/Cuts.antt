-- The lines of a text joined are the text, they are lines, and no other lines join to it.
use Rattle.std.proofs.Common.{◌≡◌, append_assoc, ◌==◌, ◌≢◌, subst, length-append, ◌<◌, ◌≤◌, ◌+◌, ◌-◌, if◌then◌else◌, ℕ, suc, zero, Bool, true, false, not, List, [], ◌∷◌, ◌++◌, refl, ap, sym, ◌∙◌, length, take, drop, slice_index, arith, inl, inr}
use Rattle.std.proofs.Common.{None, Some, add-one, length-drop}
use Rattle.std.proofs.Math.Seq.{drop-length}
use Rattle.std.proofs.lemmas.Bool.{or_parts, eqb-true, false_from_ne_true}
use Rattle.std.proofs.lemmas.List.{take_rest}
use Rattle.memchr.specs.Find.{IsFirstByte, is_byte}
use Rattle.std.proofs.lemmas.Bool.Decides.{eqb_tells, nat_tests}
use Rattle.mk_line.specs.declared.cutting.Ending.{Ending}
use Rattle.mk_line.specs.declared.cutting.Ending.TheVariants.{Crlf, Lf, Missing}
use Rattle.mk_line.specs.Views.{BeginsLine}
use Rattle.mk_line.specs.Lines.{TextLine, text_line, ending_bytes, printed_line, text_of, is_open, is_nil, with_byte, onto_first, cut, ended, has_line_feed, ends_in_return, ends_open, IsLine, AreLines}

-- a byte put before a line stands before its bytes
printed_if : (t : Bool) (byte : ℕ) → (t ≡ true → byte ≡ 13) → printed_line (if t then text_line [] Crlf else text_line (byte ∷ []) Lf) ≡ byte ∷ 10 ∷ []
printed_if true byte h = ap (λ b. b ∷ 10 ∷ []) (sym (h refl))
printed_if false byte h = refl

pub printed_with : (byte : ℕ) (content : List ℕ) (e : Ending) → printed_line (with_byte byte (text_line content e)) ≡ byte ∷ printed_line (text_line content e)
printed_with byte content Crlf = refl
printed_with byte [] Lf = printed_if (byte == 13) byte (eqb-true byte 13)
printed_with byte (next ∷ bytes) Lf = refl
printed_with byte content Missing = refl

printed_onto : (byte : ℕ) (ls : List TextLine) → text_of (onto_first byte ls) ≡ byte ∷ text_of ls
printed_onto byte [] = refl
printed_onto byte (l ∷ ls) = ap (λ xs. xs ++ text_of ls) (printed_with byte l.content l.ending)

pub text_cut : (text : List ℕ) → text_of (cut text) ≡ text
text_cut [] = refl
text_cut (byte ∷ bytes) =
    elim (eqb_tells byte 10) [
      | inl h ↦ rw h.0 (ap (λ xs. 10 ∷ xs) (text_cut bytes) ∙ ap (λ b. b ∷ bytes) (sym h.1))
      | inr h ↦ rw h.0 (printed_onto byte (cut bytes) ∙ ap (λ xs. byte ∷ xs) (text_cut bytes))
    ]

-- a line with a byte before it that is no line feed is a line
line_if : (t : Bool) (byte : ℕ) → (byte == 13) ≡ t → (byte == 10) ≡ false → IsLine (if t then text_line [] Crlf else text_line (byte ∷ []) Lf)
line_if true byte e f = record { no_feed = refl; ends_well = tt }
line_if false byte e f = record { no_feed = rw f refl; ends_well = e }

line_with : (byte : ℕ) (content : List ℕ) (e : Ending) → (byte == 10) ≡ false → IsLine (text_line content e) → IsLine (with_byte byte (text_line content e))
line_with byte content Crlf f h = record { no_feed = rw f h.no_feed; ends_well = tt }
line_with byte [] Lf f h = line_if (byte == 13) byte refl f
line_with byte (next ∷ bytes) Lf f h = record { no_feed = rw f h.no_feed; ends_well = h.ends_well }
line_with byte content Missing f h = record { no_feed = rw f h.no_feed; ends_well = refl }

open_if : (t : Bool) (byte : ℕ) → (if t then text_line [] Crlf else text_line (byte ∷ []) Lf).ending ≡ Missing → ⊥
open_if true byte e = cc
open_if false byte e = cc

open_with : (byte : ℕ) (content : List ℕ) (e : Ending) → (with_byte byte (text_line content e)).ending ≡ Missing → e ≡ Missing
open_with byte content Crlf h = h
open_with byte [] Lf h = absurd (open_if (byte == 13) byte h)
open_with byte (next ∷ bytes) Lf h = h
open_with byte content Missing h = refl

lines_onto : (byte : ℕ) (ls : List TextLine) → (byte == 10) ≡ false → AreLines ls → AreLines (onto_first byte ls)
lines_onto byte [] f h = (record { no_feed = rw f refl; ends_well = refl }, λ _. refl, tt)
lines_onto byte (l ∷ ls) f h = (line_with byte l.content l.ending f h.0, λ e. h.1 (open_with byte l.content l.ending e), h.2)

lf_closed : {A : Type 0} → Lf ≡ Missing → A
lf_closed e = cc

pub lines_cut : (text : List ℕ) → AreLines (cut text)
lines_cut [] = tt
lines_cut (byte ∷ bytes) =
    elim (eqb_tells byte 10) [
      | inl h ↦ rw h.0 (record { no_feed = refl; ends_well = refl }, (λ e. lf_closed e), lines_cut bytes)
      | inr h ↦ rw h.0 (lines_onto byte (cut bytes) h.0 (lines_cut bytes))
    ]

-- a byte that is no line feed joins the first line of what follows
pub cut_other : (byte : ℕ) (bytes : List ℕ) → (byte == 10) ≡ false → cut (byte ∷ bytes) ≡ onto_first byte (cut bytes)
cut_other byte bytes f = rw f refl

-- a line that isn't open, and what follows it
pub cut_closed : (content : List ℕ) (e : Ending) (rest : List ℕ) → IsLine (text_line content e) → is_open e ≡ false → cut ((content ++ ending_bytes e) ++ rest) ≡ text_line content e ∷ cut rest
cut_closed [] Crlf rest h o = refl
cut_closed [] Lf rest h o = refl
cut_closed content Missing rest h o = cc
cut_closed (byte ∷ bytes) Crlf rest h o =
    let f = or_parts (byte == 10) (has_line_feed bytes) h.no_feed in
    rw (cut_other byte ((bytes ++ ending_bytes Crlf) ++ rest) f.0, cut_closed bytes Crlf rest (record { no_feed = f.1; ends_well = tt }) o) refl
cut_closed (byte ∷ []) Lf rest h o =
    let f = or_parts (byte == 10) false h.no_feed in
    rw (cut_other byte (10 ∷ rest) f.0, h.ends_well) refl
cut_closed (byte ∷ next ∷ bytes) Lf rest h o =
    let f = or_parts (byte == 10) (has_line_feed (next ∷ bytes)) h.no_feed in
    rw (cut_other byte (((next ∷ bytes) ++ ending_bytes Lf) ++ rest) f.0, cut_closed (next ∷ bytes) Lf rest (record { no_feed = f.1; ends_well = h.ends_well }) o) refl

-- bytes without a line feed are one open line
pub cut_open : (byte : ℕ) (bytes : List ℕ) → has_line_feed (byte ∷ bytes) ≡ false → cut (byte ∷ bytes) ≡ text_line (byte ∷ bytes) Missing ∷ []
cut_open byte [] h = rw (cut_other byte [] (or_parts (byte == 10) false h).0) refl
cut_open byte (next ∷ bytes) h =
    let f = or_parts (byte == 10) (has_line_feed (next ∷ bytes)) h in
    rw (cut_other byte (next ∷ bytes) f.0, cut_open next bytes f.1) refl

nil_full : {A : Type 0} → is_nil {X = ℕ} [] ≡ false → A
nil_full e = cc

pub append_nil : (xs : List ℕ) → xs ++ [] ≡ xs
append_nil [] = refl
append_nil (x ∷ xs) = ap (λ ys. x ∷ ys) (append_nil xs)

cut_last : (content : List ℕ) → IsLine (text_line content Missing) → cut ((content ++ []) ++ []) ≡ text_line content Missing ∷ []
cut_last [] h = nil_full h.ends_well
cut_last (byte ∷ bytes) h = ap cut (append_nil ((byte ∷ bytes) ++ []) ∙ append_nil (byte ∷ bytes)) ∙ cut_open byte bytes h.no_feed

cut_first : (content : List ℕ) (e : Ending) (ls : List TextLine) → IsLine (text_line content e) → (e ≡ Missing → ls ≡ []) → cut (text_of ls) ≡ ls → cut (text_of (text_line content e ∷ ls)) ≡ text_line content e ∷ ls
cut_first content Crlf ls h o e = cut_closed content Crlf (text_of ls) h refl ∙ ap (λ xs. text_line content Crlf ∷ xs) e
cut_first content Lf ls h o e = cut_closed content Lf (text_of ls) h refl ∙ ap (λ xs. text_line content Lf ∷ xs) e
cut_first content Missing ls h o e = rw (o refl) (cut_last content h)

pub cut_text : (ls : List TextLine) → AreLines ls → cut (text_of ls) ≡ ls
cut_text [] h = refl
cut_text (l ∷ ls) h = cut_first l.content l.ending ls h.0 h.1 (cut_text ls h.2)

-- the first line up to a line feed, and what follows it
pub cut_at : (text : List ℕ) (n : ℕ) → n < length text → ((k : ℕ) → k < n → (slice_index text k == 10) ≡ false) → (slice_index text n == 10) ≡ true → cut text ≡ ended (take n text) ∷ cut (drop (suc n) text)
cut_at [] n l h e = let none : n < 0 = l in absurd (omega arith)
cut_at (byte ∷ bytes) zero l h e = rw e refl
cut_at (byte ∷ bytes) (suc n) l h e =
    rw (h 0 (omega arith), cut_at bytes n (omega (arith, l)) (λ k q. h (suc k) (omega arith)) e) refl

-- no line feed in a list by places
pub no_feed : (text : List ℕ) → ((k : ℕ) → k < length text → (slice_index text k == 10) ≡ false) → has_line_feed text ≡ false
no_feed [] h = refl
no_feed (byte ∷ bytes) h = rw (h 0 (omega arith)) (no_feed bytes (λ k q. h (suc k) (omega arith)))

pub cut_whole : (text : List ℕ) → 0 < length text → has_line_feed text ≡ false → cut text ≡ text_line text Missing ∷ []
cut_whole [] l h = absurd (omega (arith, l))
cut_whole (byte ∷ bytes) l h = cut_open byte bytes h

-- the line of bytes that a line feed follows
pub ended_crlf : (bytes : List ℕ) (n : ℕ) → length bytes ≡ suc n → ends_in_return bytes ≡ true → ended bytes ≡ text_line (take n bytes) Crlf
ended_crlf [] n l h = absurd (omega (arith, l))
ended_crlf (byte ∷ []) zero l h = rw h refl
ended_crlf (byte ∷ []) (suc n) l h = absurd (omega (arith, l))
ended_crlf (byte ∷ next ∷ bytes) zero l h = absurd (omega (arith, l))
ended_crlf (byte ∷ next ∷ bytes) (suc n) l h = rw (ended_crlf (next ∷ bytes) n (omega (arith, l)) h) refl

pub ended_lf : (bytes : List ℕ) → ends_in_return bytes ≡ false → ended bytes ≡ text_line bytes Lf
ended_lf [] h = refl
ended_lf (byte ∷ []) h = rw h refl
ended_lf (byte ∷ next ∷ bytes) h = rw (ended_lf (next ∷ bytes) h) refl

-- a text has no more lines than bytes
length_onto : (byte : ℕ) (ls : List TextLine) → length (onto_first byte ls) ≤ length ls + 1
length_onto byte [] = omega arith
length_onto byte (l ∷ ls) = omega arith

length_cut_onto : (byte : ℕ) (ls : List TextLine) (n : ℕ) → length ls ≤ n → length (onto_first byte ls) ≤ suc n
length_cut_onto byte ls n h = omega (arith, length_onto byte ls, h)

pub length_cut : (text : List ℕ) → length (cut text) ≤ length text
length_cut [] = omega arith
length_cut (byte ∷ bytes) =
    elim (eqb_tells byte 10) [
      | inl h ↦ rw h.0 (omega (arith, length_cut bytes))
      | inr h ↦ rw h.0 (length_cut_onto byte (cut bytes) (length bytes) (length_cut bytes))
    ]

-- the last byte tells whether bytes end in CR
last_at : (byte : ℕ) (bytes : List ℕ) (n : ℕ) → length bytes ≡ n → (slice_index (byte ∷ bytes) n == 13) ≡ ends_in_return (byte ∷ bytes)
last_at byte [] zero e = refl
last_at byte [] (suc n) e = absurd (omega (arith, e))
last_at byte (next ∷ bytes) zero e = absurd (omega (arith, e))
last_at byte (next ∷ bytes) (suc n) e = last_at next bytes n (omega (arith, e))

pub last_return : (bytes : List ℕ) → (slice_index bytes (length bytes - 1) == 13) ≡ ends_in_return bytes
last_return [] = refl
last_return (byte ∷ bytes) = last_at byte bytes (length (byte ∷ bytes) - 1) (omega arith)

-- the last byte tells whether a text ends open
open_at : (byte : ℕ) (bytes : List ℕ) (n : ℕ) → length bytes ≡ n → not (slice_index (byte ∷ bytes) n == 10) ≡ ends_open (byte ∷ bytes)
open_at byte [] zero e = refl
open_at byte [] (suc n) e = absurd (omega (arith, e))
open_at byte (next ∷ bytes) zero e = absurd (omega (arith, e))
open_at byte (next ∷ bytes) (suc n) e = open_at next bytes n (omega (arith, e))

pub last_open : (bytes : List ℕ) → 0 < length bytes → not (slice_index bytes (length bytes - 1) == 10) ≡ ends_open bytes
last_open [] h = let none : 0 < 0 = h in absurd (omega arith)
last_open (byte ∷ bytes) h = open_at byte bytes (length (byte ∷ bytes) - 1) (omega arith)

-- what a search for the first line feed tells of the first line
pub cut_found : (text : List ℕ) (end : ℕ) (l : TextLine) → IsFirstByte (is_byte 10) text (Some end) → l ≡ ended (take end text) → cut text ≡ l ∷ cut (take (length text - (end + 1)) (drop (end + 1) text))
cut_found text end l h e =
    cut_at text end h.0.high (λ k q. false_from_ne_true (slice_index text k == 10) (h.0.before k (omega arith) q)) h.1
    ∙ (ap (λ m. m ∷ cut (drop (suc end) text)) (sym e) ∙ ap (λ n. l ∷ cut (drop n text)) (sym (add-one end))
    ∙ ap (λ xs. l ∷ cut xs) (sym (take_rest text (end + 1))))

pub cut_unfound : (text : List ℕ) (l : TextLine) → IsFirstByte (is_byte 10) text None → 0 < length text → l ≡ text_line text Missing → cut text ≡ l ∷ cut (take (length text - length text) (drop (length text) text))
cut_unfound text l h o e =
    cut_whole text o (no_feed text (λ k q. false_from_ne_true (slice_index text k == 10) (h k (omega arith) q)))
    ∙ (ap (λ m. m ∷ []) (sym e) ∙ ap (λ xs. l ∷ cut xs) (sym (take_rest text (length text) ∙ drop-length text)))

-- lines after lines of a text
pub lines_following : (xs ys : List TextLine) → AreLines (xs ++ ys) → AreLines ys
lines_following [] ys h = h
lines_following (x ∷ xs) ys h = lines_following xs ys h.2

pub text_append : (xs ys : List TextLine) → text_of (xs ++ ys) ≡ text_of xs ++ text_of ys
text_append [] ys = refl
text_append (x ∷ xs) ys = ap (λ t. printed_line x ++ t) (text_append xs ys) ∙ sym (append_assoc (printed_line x) (text_of xs) (text_of ys))

drop_front : (xs ys : List ℕ) → drop (length xs) (xs ++ ys) ≡ ys
drop_front [] ys = refl
drop_front (x ∷ xs) ys = drop_front xs ys

-- where a text's lines are apart, so are their bytes, and what follows is cut the same way
pub text_apart : (text : List ℕ) (xs ys : List TextLine) → cut text ≡ xs ++ ys → text ≡ text_of xs ++ text_of ys
text_apart text xs ys e = sym (text_cut text) ∙ (ap text_of e ∙ text_append xs ys)

pub drop_lines : (text : List ℕ) (xs ys : List TextLine) → cut text ≡ xs ++ ys → drop (length (text_of xs)) text ≡ text_of ys
drop_lines text xs ys e = ap (drop (length (text_of xs))) (text_apart text xs ys e) ∙ drop_front (text_of xs) (text_of ys)

pub cut_rest : (text : List ℕ) (xs ys : List TextLine) → cut text ≡ xs ++ ys → cut (drop (length (text_of xs)) text) ≡ ys
cut_rest text xs ys e = ap cut (drop_lines text xs ys e) ∙ cut_text ys (lines_following xs ys (subst AreLines e (lines_cut text)))

-- a line feed ends a line that isn't the last
feed_at : (xs ys : List ℕ) → slice_index (xs ++ 10 ∷ ys) (length xs) ≡ 10
feed_at [] ys = refl
feed_at (x ∷ xs) ys = feed_at xs ys

closed_feed : (content : List ℕ) (e : Ending) → (e ≡ Missing → ⊥) → (front : List ℕ) × (content ++ ending_bytes e ≡ front ++ 10 ∷ [])
closed_feed content Crlf h = (content ++ 13 ∷ [], sym (append_assoc content (13 ∷ []) (10 ∷ [])))
closed_feed content Lf h = (content, refl)
closed_feed content Missing h = absurd (h refl)

some_nil : (l : TextLine) (ls : List TextLine) → l ∷ ls ≡ [] → ⊥
some_nil l ls e = cc

pub feed_before : (xs : List TextLine) (y : TextLine) (ys : List TextLine) → AreLines (xs ++ (y ∷ ys)) → xs ≢ [] → (front : List ℕ) × (text_of xs ≡ front ++ 10 ∷ [])
feed_before [] y ys h o = absurd (o refl)
feed_before (x ∷ []) y ys h o =
    let f = closed_feed x.content x.ending (λ e. some_nil y ys (h.1 e)) in
    (f.0, append_nil (printed_line x) ∙ f.1)
feed_before (x ∷ z ∷ xs) y ys h o =
    let f = feed_before (z ∷ xs) y ys h.2 (some_nil z xs) in
    (printed_line x ++ f.0, ap (λ t. printed_line x ++ t) f.1 ∙ sym (append_assoc (printed_line x) f.0 (10 ∷ [])))

place_less : (front : List ℕ) (place : ℕ) → place ≡ length (front ++ 10 ∷ []) → place - 1 ≡ length front
place_less front place p = omega (arith, p, length-append front (10 ∷ []))

feed_place : (text front rest : List ℕ) (place : ℕ) → text ≡ (front ++ 10 ∷ []) ++ rest → place ≡ length (front ++ 10 ∷ []) → slice_index text (place - 1) ≡ 10
feed_place text front rest place e p =
    ap (λ t. slice_index t (place - 1)) (e ∙ append_assoc front (10 ∷ []) rest)
    ∙ (ap (slice_index (front ++ (10 ∷ rest))) (place_less front place p) ∙ feed_at front rest)

begins_after : (text : List ℕ) (xs ys : List TextLine) → cut text ≡ xs ++ ys → 0 < length (text_of xs) → length (text_of xs) < length text → slice_index text (length (text_of xs) - 1) ≡ 10
begins_after text [] ys e o l = let none : 0 < 0 = o in absurd (omega (arith, none))
begins_after text (x ∷ xs) [] e o l =
    let whole : text ≡ text_of (x ∷ xs) ++ [] = text_apart text (x ∷ xs) [] e in
    let size : length text ≡ length (text_of (x ∷ xs)) = ap length (whole ∙ append_nil (text_of (x ∷ xs))) in
    absurd (omega (arith, size, l))
begins_after text (x ∷ xs) (y ∷ ys) e o l =
    let f = feed_before (x ∷ xs) y ys (subst AreLines e (lines_cut text)) (some_nil x xs) in
    feed_place text f.0 (text_of (y ∷ ys)) (length (text_of (x ∷ xs))) (text_apart text (x ∷ xs) (y ∷ ys) e ∙ ap (λ t. t ++ text_of (y ∷ ys)) f.1) (ap length f.1)

-- a line begins after lines of a text
pub begins_line : (text : List ℕ) (xs ys : List TextLine) → cut text ≡ xs ++ ys → BeginsLine text (length (text_of xs))
begins_line text xs ys e = record {
  within = let size : length text ≡ length (text_of xs ++ text_of ys) = ap length (text_apart text xs ys e) in omega (arith, size, length-append (text_of xs) (text_of ys));
  after_feed = begins_after text xs ys e;
}

-- a first line and the rest make up the text
pub front_apart : (text : List ℕ) (l : TextLine) (rest : List ℕ) → cut text ≡ l ∷ cut rest → text ≡ printed_line l ++ rest
front_apart text l rest e = sym (text_cut text) ∙ (ap text_of e ∙ ap (λ t. printed_line l ++ t) (text_cut rest))

pub some_length : (n : ℕ) → (n == 0) ≡ false → 0 < n
some_length n h = grind (arith, nat_tests)

pub shorter : (text : List ℕ) (n : ℕ) → 0 < n → 0 < length text → length (take (length text - n) (drop n text)) < length text
shorter text n h k = omega (arith, ap length (take_rest text n), length-drop n text)
