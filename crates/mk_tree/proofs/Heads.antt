-- The head of an entity that a mark may end.
use Rattle.std.proofs.Common.{◌≡◌, ◌++◌, if◌then◌else◌, ℕ, Bool, true, false, List, [], ◌∷◌, refl, ap, ◌∙◌, subst, length, take}
use Rattle.std.proofs.Math.Seq.{take-append_seam}
use Rattle.mk_line.specs.Lines.{TextLine, AreLines, text_of, is_nil, cut as lines_of}
use Rattle.mk_line.proofs.Cuts.{cut_text, lines_cut, text_apart}
use Rattle.mk_head.specs.Split.{belongs, fields_from, rest_from, separator_of, body_of, is_empty}
use Rattle.mk_tree.specs.Spans.{size}
use Rattle.mk_tree.specs.Upto.{is_marked, upto, beyond, goes_on, fields_until, rest_until}
use Rattle.mk_tree.proofs.Marked.{unmarked}

fields_step : (bs : List (List ℕ)) (i : Bool) (l : TextLine) (ls : List TextLine) (t u : Bool) → is_marked bs l ≡ t → belongs i l ≡ u → fields_from true (upto bs ls) ≡ fields_until bs true ls → fields_from i (upto bs (l ∷ ls)) ≡ fields_until bs i (l ∷ ls)
fields_step bs i l ls true u e f h = rw e refl
fields_step bs i l ls false true e f h = rw (e, f) (ap (λ xs. l ∷ xs) h)
fields_step bs i l ls false false e f h = rw (e, f) refl

pub fields_upto : (bs : List (List ℕ)) (i : Bool) (ls : List TextLine) → fields_from i (upto bs ls) ≡ fields_until bs i ls
fields_upto bs i [] = refl
fields_upto bs i (l ∷ ls) = fields_step bs i l ls (is_marked bs l) (belongs i l) refl refl (fields_upto bs true ls)

rest_step : (bs : List (List ℕ)) (i : Bool) (l : TextLine) (ls : List TextLine) (t u : Bool) → is_marked bs l ≡ t → belongs i l ≡ u → rest_from true (upto bs ls) ≡ upto bs (rest_until bs true ls) → rest_from i (upto bs (l ∷ ls)) ≡ upto bs (rest_until bs i (l ∷ ls))
rest_step bs i l ls true u e f h = rw e (rw e refl)
rest_step bs i l ls false true e f h = rw (e, f) h
rest_step bs i l ls false false e f h = rw (e, f) (rw e refl)

pub rest_upto : (bs : List (List ℕ)) (i : Bool) (ls : List TextLine) → rest_from i (upto bs ls) ≡ upto bs (rest_until bs i ls)
rest_upto bs i [] = refl
rest_upto bs i (l ∷ ls) = rest_step bs i l ls (is_marked bs l) (belongs i l) refl refl (rest_upto bs true ls)

beyond_step : (bs : List (List ℕ)) (i : Bool) (l : TextLine) (ls : List TextLine) (t u : Bool) → is_marked bs l ≡ t → belongs i l ≡ u → beyond bs (rest_until bs true ls) ≡ beyond bs ls → beyond bs (rest_until bs i (l ∷ ls)) ≡ beyond bs (l ∷ ls)
beyond_step bs i l ls true u e f h = rw e (rw e refl)
beyond_step bs i l ls false true e f h = rw (e, f) h
beyond_step bs i l ls false false e f h = rw (e, f) (rw e refl)

pub beyond_rest : (bs : List (List ℕ)) (i : Bool) (ls : List TextLine) → beyond bs (rest_until bs i ls) ≡ beyond bs ls
beyond_rest bs i [] = refl
beyond_rest bs i (l ∷ ls) = beyond_step bs i l ls (is_marked bs l) (belongs i l) refl refl (beyond_rest bs true ls)

fields_again_step : (bs : List (List ℕ)) (i : Bool) (l : TextLine) (ls : List TextLine) (t u : Bool) → is_marked bs l ≡ t → belongs i l ≡ u → fields_from true (fields_until bs true ls) ≡ fields_until bs true ls → fields_from i (fields_until bs i (l ∷ ls)) ≡ fields_until bs i (l ∷ ls)
fields_again_step bs i l ls true u e f h = rw e refl
fields_again_step bs i l ls false true e f h = rw (e, f) (rw f (ap (λ xs. l ∷ xs) h))
fields_again_step bs i l ls false false e f h = rw (e, f) refl

pub fields_again : (bs : List (List ℕ)) (i : Bool) (ls : List TextLine) → fields_from i (fields_until bs i ls) ≡ fields_until bs i ls
fields_again bs i [] = refl
fields_again bs i (l ∷ ls) = fields_again_step bs i l ls (is_marked bs l) (belongs i l) refl refl (fields_again bs true ls)

pub until_apart : (bs : List (List ℕ)) (i : Bool) (ls : List TextLine) → fields_until bs i ls ++ rest_until bs i ls ≡ ls
until_apart bs i [] = refl
until_apart bs i (l ∷ ls) = elim (goes_on bs i l) as (λ t. (if t then l ∷ fields_until bs true ls else []) ++ (if t then rest_until bs true ls else l ∷ ls) ≡ l ∷ ls) [ true ↦ ap (λ xs. l ∷ xs) (until_apart bs true ls) | false ↦ refl ]

-- an empty line is no mark
empty_unmarked : (bs : List (List ℕ)) (l : TextLine) (content : List ℕ) → l.content ≡ content → is_nil content ≡ true → is_marked bs l ≡ false
empty_unmarked bs l [] e h = unmarked bs l (rw e refl)
empty_unmarked bs l (byte ∷ bytes) e h = cc

separator_step : (bs : List (List ℕ)) (l : TextLine) (ls : List TextLine) (t u : Bool) → is_marked bs l ≡ t → is_empty l ≡ u
    → (separator_of (upto bs (l ∷ ls)) ≡ separator_of (l ∷ ls)) × (body_of (upto bs (l ∷ ls)) ≡ upto bs (body_of (l ∷ ls))) × (beyond bs (body_of (l ∷ ls)) ≡ beyond bs (l ∷ ls))
separator_step bs l ls true true e f = let n = empty_unmarked bs l l.content refl f in cc
separator_step bs l ls true false e f = (rw (e, f) refl, rw (f, e) refl, rw f refl)
separator_step bs l ls false true e f = (rw e refl, rw (e, f) refl, rw (f, e) refl)
separator_step bs l ls false false e f = (rw e refl, rw (e, f) (rw e refl), rw f refl)

pub separator_upto : (bs : List (List ℕ)) (ls : List TextLine) → (separator_of (upto bs ls) ≡ separator_of ls) × (body_of (upto bs ls) ≡ upto bs (body_of ls)) × (beyond bs (body_of ls) ≡ beyond bs ls)
separator_upto bs [] = (refl, refl, refl)
separator_upto bs (l ∷ ls) = separator_step bs l ls (is_marked bs l) (is_empty l) refl refl

pub lines_front : (xs ys : List TextLine) → AreLines (xs ++ ys) → AreLines xs
lines_front [] ys h = tt
lines_front (x ∷ []) ys h = (h.0, (λ e. refl), tt)
lines_front (x ∷ y ∷ xs) ys h = (h.0, (λ e. let f = h.1 e in cc), lines_front (y ∷ xs) ys h.2)

take_front : (xs ys : List ℕ) (n : ℕ) → n ≡ length xs → take n (xs ++ ys) ≡ xs
take_front xs ys n e = ap (λ k. take k (xs ++ ys)) e ∙ take-append_seam xs ys

-- a front of a text's lines, by its length
pub front_lines : (text : List ℕ) (xs ys : List TextLine) (n : ℕ) → lines_of text ≡ xs ++ ys → n ≡ size xs → lines_of (take n text) ≡ xs
front_lines text xs ys n e k =
    ap (λ t. lines_of (take n t)) (text_apart text xs ys e)
    ∙ (ap lines_of (take_front (text_of xs) (text_of ys) n k) ∙ cut_text xs (lines_front xs ys (subst AreLines e (lines_cut text))))
