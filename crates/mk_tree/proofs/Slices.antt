-- Lines one after another, as bytes one after another.
use Rattle.std.proofs.Common.{◌≡◌, ◌≤◌, ◌+◌, ℕ, List, ◌++◌, refl, ap, sym, subst, ◌∙◌, length, take, drop, arith}
use Rattle.std.proofs.lemmas.List.{take_at}
use Rattle.mk_line.specs.Lines.{TextLine, cut, text_of, AreLines}
use Rattle.mk_line.proofs.Cuts.{lines_cut, cut_text, text_apart, cut_rest, lines_following}
use Rattle.mk_tree.specs.Spans.{size}
use Rattle.mk_tree.proofs.Descent.{size_append, size_cut}
use Rattle.mk_tree.proofs.Heads.{lines_front}

-- lines at the start of a text: how long they are, their bytes, and that these are cut into them
pub front_within : (text : List ℕ) (xs ys : List TextLine) → cut text ≡ xs ++ ys → size xs ≤ length text
front_within text xs ys e = let h : length text ≡ size (xs ++ ys) = sym (size_cut text) ∙ ap size e in omega (arith, h, size_append xs ys)

pub front_text : (text : List ℕ) (xs ys : List TextLine) → cut text ≡ xs ++ ys → take (size xs) text ≡ text_of xs
front_text text xs ys e = ap (take (size xs)) (text_apart text xs ys e) ∙ take_at (text_of xs) (text_of ys) (size xs) refl

pub front_cut : (text : List ℕ) (xs ys : List TextLine) → cut text ≡ xs ++ ys → cut (text_of xs) ≡ xs
front_cut text xs ys e = cut_text xs (lines_front xs ys (subst AreLines e (lines_cut text)))

-- the same of the lines after them
pub after_cut : (text : List ℕ) (xs ys : List TextLine) → cut text ≡ xs ++ ys → cut (text_of ys) ≡ ys
after_cut text xs ys e = cut_text ys (lines_following xs ys (subst AreLines e (lines_cut text)))

-- lines in the middle of a text
pub middle_cut : (text : List ℕ) (xs ys zs : List TextLine) → cut text ≡ xs ++ (ys ++ zs) → cut (take (size ys) (drop (size xs) text)) ≡ ys
middle_cut text xs ys zs e =
    let following : cut (drop (size xs) text) ≡ ys ++ zs = cut_rest text xs (ys ++ zs) e in
    ap cut (front_text (drop (size xs) text) ys zs following) ∙ front_cut (drop (size xs) text) ys zs following

pub end_cut : (text : List ℕ) (xs ys zs : List TextLine) → cut text ≡ xs ++ (ys ++ zs) → cut (drop (size ys) (drop (size xs) text)) ≡ zs
end_cut text xs ys zs e = cut_rest (drop (size xs) text) ys zs (cut_rest text xs (ys ++ zs) e)

pub middle_within : (text : List ℕ) (xs ys zs : List TextLine) → cut text ≡ xs ++ (ys ++ zs) → size xs + size ys ≤ length text
middle_within text xs ys zs e = let h : length text ≡ size (xs ++ (ys ++ zs)) = sym (size_cut text) ∙ ap size e in omega (arith, h, size_append xs (ys ++ zs), size_append ys zs)
