-- Whether a line stands open before a place, or a line after it, by the bytes around.
use Rattle.std.proofs.Common.{◌≡◌, ◌++◌, ℕ, List, [], ◌∷◌, refl, ap, ◌∙◌, subst, length, take, arith, length-append, nat_lt}
use Rattle.std.proofs.lemmas.Bool.{lt-ltb, le-ltb}
use Rattle.std.proofs.lemmas.List.{take_at}
use Rattle.mk_line.specs.Lines.{TextLine, cut, text_of, AreLines, ends_open}
use Rattle.mk_line.proofs.Cuts.{lines_cut, text_apart}
use Rattle.mk_decide.proofs.Openings.{has_line, last_open, some_text, open_text, lines_front}

pub front_open : (text : List ℕ) (xs ys : List TextLine) → cut text ≡ xs ++ ys → ends_open (take (length (text_of xs)) text) ≡ last_open xs
front_open text [] ys e = refl
front_open text (x ∷ xs) ys e =
    let a : AreLines (x ∷ xs) = lines_front (x ∷ xs) ys (subst AreLines e (lines_cut text)) in
    ap ends_open (ap (take (length (text_of (x ∷ xs)))) (text_apart text (x ∷ xs) ys e) ∙ take_at (text_of (x ∷ xs)) (text_of ys) (length (text_of (x ∷ xs))) refl) ∙ open_text x xs a

pub more_lines : (text : List ℕ) (xs ys : List TextLine) → cut text ≡ xs ++ ys → AreLines ys → nat_lt (length (text_of xs)) (length text) ≡ has_line ys
more_lines text xs [] e a =
    le-ltb (length (text_of xs)) (length text) (omega (arith, ap length (text_apart text xs [] e), length-append (text_of xs) []))
more_lines text xs (y ∷ ys) e a =
    lt-ltb (length (text_of xs)) (length text) (omega (arith, ap length (text_apart text xs (y ∷ ys) e), length-append (text_of xs) (text_of (y ∷ ys)), some_text y ys a.0))

pub after_lines : (xs ys : List TextLine) → AreLines (xs ++ ys) → AreLines ys
after_lines [] ys h = h
after_lines (x ∷ xs) ys h = after_lines xs ys h.2
