-- Lines are counted by their line feeds.
use Rattle.std.proofs.Common.{◌≡◌, ◌≢◌, ◌==◌, ◌+◌, ◌<◌, ◌≤◌, if◌then◌else◌, ℕ, suc, Bool, true, false, not, List, [], ◌∷◌, ◌++◌, refl, ap, sym, ◌∙◌, length, take, drop, count_by, arith, inl, inr}
use Rattle.std.proofs.lemmas.Bool.{cases_Bool}
use Rattle.std.proofs.lemmas.Bool.Decides.{eqb_tells}
use Rattle.std.proofs.lemmas.List.Sums.{sum_by-append}
use Rattle.std.proofs.lemmas.Simd.{chunk-drop}
use Rattle.mk_line.proofs.Cuts.{cut_other}
use Rattle.mk_line.specs.Lines.{TextLine, onto_first, cut, ends_open}

abbrev feeds : List ℕ → ℕ
feeds = count_by (λ byte. byte == 10)

abbrev one_if : Bool → ℕ
one_if t = if t then 1 else 0

feeds-append : (xs ys : List ℕ) → feeds (xs ++ ys) ≡ feeds xs + feeds ys
feeds-append xs ys = sum_by-append (λ x. one_if (x == 10)) xs ys

feeds-cons : (x : ℕ) (xs : List ℕ) → feeds (x ∷ xs) ≡ (0 + one_if (x == 10)) + feeds xs
feeds-cons x xs = feeds-append (x ∷ []) xs

feed_more : (x : ℕ) (xs : List ℕ) → (x == 10) ≡ true → feeds (x ∷ xs) ≡ 1 + feeds xs
feed_more x xs t = let e : one_if (x == 10) ≡ 1 = ap one_if t in omega (arith, feeds-cons x xs, e)

feed_none : (x : ℕ) (xs : List ℕ) → (x == 10) ≡ false → feeds (x ∷ xs) ≡ feeds xs
feed_none x xs f = let e : one_if (x == 10) ≡ 0 = ap one_if f in omega (arith, feeds-cons x xs, e)

-- a step of a loop over blocks
pub block_counted : (text : List ℕ) (place count found : ℕ) → count + feeds (drop place text) ≡ feeds text → found ≡ feeds (take 64 (drop place text)) → (count + found) + feeds (drop (place + 64) text) ≡ feeds text
block_counted text place count found so_far e =
    let parts : feeds (drop place text) ≡ feeds (take 64 (drop place text)) + feeds (drop (place + 64) text) =
    ap feeds (chunk-drop place 64 text) ∙ feeds-append (take 64 (drop place text)) (drop (place + 64) text) in
    omega (arith, so_far, e, parts)

some_onto : (x : ℕ) (ls : List TextLine) → onto_first x ls ≢ []
some_onto x [] e = cc
some_onto x (l ∷ ls) e = cc

some_if : (t : Bool) (l : TextLine) (ls ms : List TextLine) → ms ≢ [] → (if t then l ∷ ls else ms) ≢ []
some_if true l ls ms h e = cc
some_if false l ls ms h e = h e

some_lines : (x : ℕ) (xs : List ℕ) → cut (x ∷ xs) ≢ []
some_lines x xs = some_if (x == 10) _ (cut xs) (onto_first x (cut xs)) (some_onto x (cut xs))

length_onto : (x : ℕ) (ls : List TextLine) → ls ≢ [] → length (onto_first x ls) ≡ length ls
length_onto x [] h = absurd (h refl)
length_onto x (l ∷ ls) h = refl

abbrev open_line : Bool → ℕ
open_line true = 1
open_line false = 0

lines_feed : (x : ℕ) (xs : List ℕ) → (x == 10) ≡ true → length (cut (x ∷ xs)) ≡ suc (length (cut xs))
lines_feed x xs t = rw t refl

lines_other : (x y : ℕ) (ys : List ℕ) → (x == 10) ≡ false → length (cut (x ∷ y ∷ ys)) ≡ length (cut (y ∷ ys))
lines_other x y ys f = ap length (cut_other x (y ∷ ys) f) ∙ length_onto x (cut (y ∷ ys)) (some_lines y ys)

one_line : (x : ℕ) (t : Bool) → (x == 10) ≡ t → length (cut (x ∷ [])) ≡ one_if t + open_line (not t)
one_line x true t = rw t refl
one_line x false f = rw f refl

lines_counted : (text : List ℕ) → length (cut text) ≡ feeds text + open_line (ends_open text)
lines_counted [] = refl
lines_counted (x ∷ []) = omega (arith, one_line x (x == 10) refl, feeds-cons x [])
lines_counted (x ∷ y ∷ ys) =
    let rest = lines_counted (y ∷ ys) in
    elim (cases_Bool (x == 10)) [
      | inl t ↦ omega (arith, rest, lines_feed x (y ∷ ys) t, feed_more x (y ∷ ys) t)
      | inr f ↦ omega (arith, rest, lines_other x y ys f, feed_none x (y ∷ ys) f)
    ]

-- with and without an open line at the end
pub counted_open : (text : List ℕ) (n : ℕ) (t : Bool) → n ≡ feeds text → t ≡ ends_open text → t ≡ true → n + 1 ≡ length (cut text)
counted_open text n t e o h = let last : open_line (ends_open text) ≡ 1 = ap open_line (sym o ∙ h) in omega (arith, lines_counted text, e, last)

pub counted_closed : (text : List ℕ) (n : ℕ) (t : Bool) → n ≡ feeds text → t ≡ ends_open text → t ≡ false → n ≡ length (cut text)
counted_closed text n t e o h = let last : open_line (ends_open text) ≡ 0 = ap open_line (sym o ∙ h) in omega (arith, lines_counted text, e, last)
