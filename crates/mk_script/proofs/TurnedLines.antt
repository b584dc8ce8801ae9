-- Lines with another ending are lines.
use Rattle.std.proofs.Common.{◌≡◌, ◌≢◌, ◌⊎◌, ◌==◌, ◌&&◌, ◌||◌, ◌++◌, ◌∙◌, if◌then◌else◌, ℕ, Bool, true, false, List, [], ◌∷◌, map, refl, ap, sym, subst, inl, inr}
use Rattle.std.proofs.lemmas.Bool.{cases_Bool, eqb-true}
use Rattle.std.specs.List.{list_all}
use Rattle.mk_line.specs.declared.cutting.Ending.{Ending}
use Rattle.mk_line.specs.declared.cutting.Ending.TheVariants.{Crlf, Lf, Missing}
use Rattle.mk_line.specs.Lines.{AreLines, IsLine, TextLine, cut, ends_in_return, has_line_feed, text_line, text_of}
use Rattle.mk_line.proofs.Cuts.{cut_text, lines_cut}
use Rattle.mk_script.specs.Endings.{HaveEnding, content_before, turned_ending, turned_line, turned_to, without_returns}

-- no byte but carriage returns
abbrev pub are_returns : List ℕ → Bool
are_returns bytes = list_all (λ byte. byte == 13) bytes

-- a carriage return more at the end
returns_more : (xs : List ℕ) → are_returns (xs ++ 13 ∷ []) ≡ are_returns xs
returns_more [] = refl
returns_more (x ∷ xs) = ap (λ b. (x == 13) && b) (returns_more xs)

gone_by : (t : Bool) (x : ℕ) (xs : List ℕ) → are_returns (x ∷ xs) ≡ t → without_returns (xs ++ 13 ∷ []) ≡ without_returns xs → without_returns (x ∷ (xs ++ 13 ∷ [])) ≡ without_returns (x ∷ xs)
gone_by true x xs t h = rw (returns_more (x ∷ xs) ∙ t, t) refl
gone_by false x xs t h = rw (returns_more (x ∷ xs) ∙ t, t) (ap (λ ys. x ∷ ys) h)

-- it goes
pub return_gone : (xs : List ℕ) → without_returns (xs ++ 13 ∷ []) ≡ without_returns xs
return_gone [] = refl
return_gone (x ∷ xs) = gone_by (are_returns (x ∷ xs)) x xs refl (return_gone xs)

and_false : (a b : Bool) → b ≡ false → (a && b) ≡ false
and_false true b h = h
and_false false b h = refl

-- where the last byte is another, not all are returns
some_other : (x : ℕ) (xs : List ℕ) → ends_in_return (x ∷ xs) ≡ false → are_returns (x ∷ xs) ≡ false
some_other x [] h = and_left (x == 13) h
  where
    and_left : (a : Bool) → a ≡ false → (a && true) ≡ false
    and_left true h = h
    and_left false h = refl
some_other x (y ∷ ys) h = and_false (x == 13) (are_returns (y ∷ ys)) (some_other y ys h)

last_on : (x y : ℕ) (ys : List ℕ) → ends_in_return (x ∷ (y ∷ ys)) ≡ false → ends_in_return (y ∷ ys) ≡ false
last_on x y ys h = h

-- bytes that end with another byte stay
pub returns_none : (xs : List ℕ) → ends_in_return xs ≡ false → without_returns xs ≡ xs
returns_none [] h = refl
returns_none (x ∷ []) h = rw (some_other x [] h) refl
returns_none (x ∷ (y ∷ ys)) h = rw (some_other x (y ∷ ys) h) (ap (λ zs. x ∷ zs) (returns_none (y ∷ ys) h))

-- bytes that are no others before a carriage return don't end with one
pub no_return : (xs : List ℕ) → ((front : List ℕ) → xs ≢ front ++ 13 ∷ []) → ends_in_return xs ≡ false
no_return [] n = refl
no_return (x ∷ []) n = elim (cases_Bool (x == 13)) [
  | inl t ↦ absurd (n [] (ap (λ b. b ∷ []) (eqb-true x 13 t)))
  | inr f ↦ f
]
no_return (x ∷ (y ∷ ys)) n = no_return (y ∷ ys) (λ front e. n (x ∷ front) (ap (λ zs. x ∷ zs) e))

-- where nothing stays all are returns
none_left : (xs : List ℕ) → without_returns xs ≡ [] → are_returns xs ≡ true
none_left [] h = refl
none_left (x ∷ xs) h = elim (cases_Bool (are_returns (x ∷ xs))) [
  | inl t ↦ t
  | inr f ↦ absurd (some (rw f at h))
]
  where
    some : {x : ℕ} {ys : List ℕ} → x ∷ ys ≡ [] → ⊥
    some e = cc

ends_by : (x : ℕ) (rest kept : List ℕ) → are_returns (x ∷ rest) ≡ false → without_returns rest ≡ kept → ends_in_return kept ≡ false → ends_in_return (x ∷ kept) ≡ false
ends_by x rest [] f none h = first (x == 13) (none_left rest none) f
  where
    first : (a : Bool) → are_returns rest ≡ true → (a && are_returns rest) ≡ false → a ≡ false
    first true all f = sym all ∙ f
    first false all f = refl
ends_by x rest (y ∷ ys) f same h = h

-- no carriage return is left at the end
pub ends_clear : (xs : List ℕ) → ends_in_return (without_returns xs) ≡ false
ends_clear [] = refl
ends_clear (x ∷ xs) = elim (cases_Bool (are_returns (x ∷ xs))) [
  | inl t ↦ rw t refl
  | inr f ↦ rw f (ends_by x xs (without_returns xs) f refl (ends_clear xs))
]

or_none : (a b c : Bool) → (a || b) ≡ false → (b ≡ false → c ≡ false) → (a || c) ≡ false
or_none true b c h k = h
or_none false b c h k = k h

-- no line feed comes in
pub feed_none : (xs : List ℕ) → has_line_feed xs ≡ false → has_line_feed (without_returns xs) ≡ false
feed_none [] h = refl
feed_none (x ∷ xs) h = elim (cases_Bool (are_returns (x ∷ xs))) [
  | inl t ↦ rw t refl
  | inr f ↦ rw f (or_none (x == 10) (has_line_feed xs) (has_line_feed (without_returns xs)) h (feed_none xs))
]

is_turned : (eol : Ending) (content : List ℕ) (e : Ending) → eol ≢ Missing → IsLine (text_line content e) → IsLine (turned_line eol (text_line content e))
is_turned Crlf content Crlf n h = record { no_feed = h.no_feed; ends_well = tt }
is_turned Crlf content Lf n h = record { no_feed = h.no_feed; ends_well = tt }
is_turned Lf content Crlf n h = record { no_feed = feed_none content h.no_feed; ends_well = ends_clear content }
is_turned Lf content Lf n h = record { no_feed = feed_none content h.no_feed; ends_well = ends_clear content }
is_turned Missing content Crlf n h = absurd (n refl)
is_turned Missing content Lf n h = absurd (n refl)
is_turned eol content Missing n h = h

open_last : (eol e : Ending) (ls : List TextLine) → eol ≢ Missing → (e ≡ Missing → ls ≡ []) → turned_ending eol e ≡ Missing → map (turned_line eol) ls ≡ []
open_last eol Crlf ls n h t = absurd (n t)
open_last eol Lf ls n h t = absurd (n t)
open_last eol Missing ls n h t = ap (map (turned_line eol)) (h refl)

are_turned : (eol : Ending) (ls : List TextLine) → eol ≢ Missing → AreLines ls → AreLines (map (turned_line eol) ls)
are_turned eol [] n h = tt
are_turned eol (l ∷ ls) n h = (is_turned eol l.content l.ending n h.0, open_last eol l.ending ls n h.1, are_turned eol ls n h.2)

pub cut_turned : (eol : Ending) (text : List ℕ) → eol ≢ Missing → cut (turned_to eol text) ≡ map (turned_line eol) (cut text)
cut_turned eol text n = cut_text (map (turned_line eol) (cut text)) (are_turned eol (cut text) n (lines_cut text))

ending_or : (eol e : Ending) (ls : List TextLine) → (e ≡ Missing → ls ≡ []) → (turned_ending eol e ≡ eol) ⊎ ((turned_ending eol e ≡ Missing) × (map (turned_line eol) ls ≡ []))
ending_or eol Crlf ls h = inl refl
ending_or eol Lf ls h = inl refl
ending_or eol Missing ls h = inr (refl, ap (map (turned_line eol)) (h refl))

have_ending : (eol : Ending) (ls : List TextLine) → AreLines ls → HaveEnding eol (map (turned_line eol) ls)
have_ending eol [] h = tt
have_ending eol (l ∷ ls) h = (ending_or eol l.ending ls h.1, have_ending eol ls h.2)

pub turned_have : (eol : Ending) (text : List ℕ) → eol ≢ Missing → HaveEnding eol (cut (turned_to eol text))
turned_have eol text n = subst (HaveEnding eol) (sym (cut_turned eol text n)) (have_ending eol (cut text) (lines_cut text))

line_stays : (eol : Ending) (content : List ℕ) (e : Ending) → eol ≢ Missing → turned_line eol (turned_line eol (text_line content e)) ≡ turned_line eol (text_line content e)
line_stays Crlf content Crlf n = refl
line_stays Crlf content Lf n = refl
line_stays Lf content Crlf n = ap (λ c. text_line c Lf) (returns_none (without_returns content) (ends_clear content))
line_stays Lf content Lf n = ap (λ c. text_line c Lf) (returns_none (without_returns content) (ends_clear content))
line_stays Missing content Crlf n = absurd (n refl)
line_stays Missing content Lf n = absurd (n refl)
line_stays eol content Missing n = refl

lines_stay : (eol : Ending) (ls : List TextLine) → eol ≢ Missing → map (turned_line eol) (map (turned_line eol) ls) ≡ map (turned_line eol) ls
lines_stay eol [] n = refl
lines_stay eol (l ∷ ls) n = λ i. line_stays eol l.content l.ending n i ∷ lines_stay eol ls n i

pub turned_stay : (eol : Ending) (text : List ℕ) → eol ≢ Missing → turned_to eol (turned_to eol text) ≡ turned_to eol text
turned_stay eol text n = ap (λ ls. text_of (map (turned_line eol) ls)) (cut_turned eol text n) ∙ ap text_of (lines_stay eol (cut text) n)
