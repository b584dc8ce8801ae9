-- Letters with their words in the order of their places.
use Rattle.std.proofs.Common.{◌≡◌, ◌∙◌, ℕ, Result, Ok, Err, IfOk, IsPermutation, List, [], ◌∷◌, map, length, slice_index_or, ap, refl, subst, arith}
use Rattle.std.specs.Global.{Vec}
use Rattle.std.specs.List.Sorted.{IsNonDecreasingBy}
use Rattle.std.proofs.lemmas.List.{get_or-map, length-map}
use Rattle.std.proofs.lemmas.List.Sorted.{IsPermutation-map}
use Rattle.mk_letters.specs.RoundsAsked.{word_of}
use Rattle.mk_letters.specs.declared.words.LetterWord.{LetterWord}
use Rattle.mk_asked.specs.Found.{AreInOrder, PlacedWord}
use Rattle.mk_asked.specs.inner.Placed.{placed_word}

same_words : (xs : List (ℕ × LetterWord)) → map word_of (map (λ p. p.1) xs) ≡ map (λ q. q.word) (map placed_word xs)
same_words [] = refl
same_words (x ∷ xs) = ap (λ ws. word_of x.1 ∷ ws) (same_words xs)

placed_order : (xs : List (ℕ × LetterWord)) → IsNonDecreasingBy (λ p. p.0) xs → IsNonDecreasingBy (λ q. q.place) (map placed_word xs)
placed_order [] up i j d le lt = absurd (omega (arith, lt))
placed_order (x ∷ xs) up i j d le lt =
    let all = x ∷ xs in
    let long : length (map placed_word all) ≡ length all = length-map all placed_word in
    let first : slice_index_or (map placed_word all) i d ≡ placed_word (slice_index_or all i x) = get_or-map placed_word all i x d (omega (arith, le, lt, long)) in
    let second : slice_index_or (map placed_word all) j d ≡ placed_word (slice_index_or all j x) = get_or-map placed_word all j x d (omega (arith, lt, long)) in
    rw (first, second) (up i j x le (omega (arith, lt, long)))

-- sorted words are those that were found, in order
pub in_order : {E : Type 0} (found : List PlacedWord) (before after : List (ℕ × LetterWord)) (r : Result (Vec LetterWord) E) → map placed_word before ≡ found → IsPermutation before after
    → IsNonDecreasingBy (λ p. p.0) after → IfOk r (λ words. words.items ≡ map (λ p. p.1) after) → IfOk r (λ words. AreInOrder found (map word_of words.items))
in_order found before after (Ok words) f p up w = record {
  placed = map placed_word after;
  all = subst (λ xs. IsPermutation xs (map placed_word after)) f (IsPermutation-map placed_word before after p);
  order = placed_order after up;
  same = ap (map word_of) w ∙ same_words after;
}
in_order found before after (Err e) f p up w = w
