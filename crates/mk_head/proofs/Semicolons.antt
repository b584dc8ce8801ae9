-- Pieces up to the first byte that ends them, or begins a quoted string or a comment.
use Rattle.std.proofs.Common.{◌≡◌, ◌==◌, ◌||◌, ◌+◌, ◌<◌, ◌≤◌, ℕ, suc, zero, false, List, [], ◌∷◌, refl, ap, length, take, drop, get_or, slice_index, arith, Some, None}
use Rattle.std.proofs.lemmas.Bool.{or_parts, false_from_ne_true}
use Rattle.memchr.specs.Find.{IsFirstByte, is_byte3}
use Rattle.mk_head.specs.Values.{Plain}
use Rattle.mk_head.specs.Depths.{first_piece, other_pieces, pieces_after}

-- no byte of a front is a quote, an opening parenthesis or a semicolon
abbrev IsOpen : List ℕ → ℕ → Type 0
IsOpen text n = (k : ℕ) → k < n → is_byte3 34 40 59 (slice_index text k) ≡ false

-- a front of a text is its first piece, and the others follow
abbrev IsCutAt : List ℕ → ℕ → Type 0
IsCutAt text n = (first_piece Plain text ≡ take n text) × (other_pieces Plain text ≡ pieces_after (drop n text))

apart : (x : ℕ) → is_byte3 34 40 59 x ≡ false → ((x == 34) ≡ false) × ((x == 40) ≡ false) × ((x == 59) ≡ false)
apart x h =
    let quote_paren = or_parts (x == 34 || x == 40) (x == 59) h in
    let both = or_parts (x == 34) (x == 40) quote_paren.0 in
    (both.0, both.1, quote_paren.1)

longer : (x : ℕ) (xs : List ℕ) (n : ℕ) → is_byte3 34 40 59 x ≡ false → IsCutAt xs n → IsCutAt (x ∷ xs) (suc n)
longer x xs n h cut =
    let is = apart x h in
    (rw (is.0, is.1, is.2) (ap (λ ys. x ∷ ys) cut.0), rw (is.0, is.1, is.2) cut.1)

whole : (text : List ℕ) → IsOpen text (length text) → IsCutAt text (length text)
whole [] h = (refl, refl)
whole (x ∷ xs) h = longer x xs (length xs) (h 0 (omega arith)) (whole xs (λ k l. h (suc k) (omega arith)))

ended : (n : ℕ) (text : List ℕ) → n < length text → IsOpen text n → get_or text n 0 ≡ 59 → IsCutAt text n
ended n [] l h e = absurd (omega (arith, l))
ended zero (x ∷ xs) l h e = let here : x ≡ 59 = e in (rw here refl, rw here refl)
ended (suc n) (x ∷ xs) l h e = longer x xs n (h 0 (omega arith)) (ended n xs (omega (arith, l)) (λ k m. h (suc k) (omega arith)) e)

further : (n more : ℕ) (text : List ℕ) → n ≤ length text → IsOpen text n → IsCutAt (drop n text) more → IsCutAt text (n + more)
further zero more text l h cut = let e : 0 + more ≡ more = omega arith in rw e cut
further (suc n) more [] l h cut = absurd (omega (arith, l))
further (suc n) more (x ∷ xs) l h cut =
    let e : suc n + more ≡ suc (n + more) = omega arith in
    rw e (longer x xs (n + more) (h 0 (omega arith)) (further n more xs (omega (arith, l)) (λ k m. h (suc k) (omega arith)) cut))

-- what a search for one of the three says
pub none_found : (text : List ℕ) → IsFirstByte (is_byte3 34 40 59) text None → IsCutAt text (length text)
none_found text h = whole text (λ k l. false_from_ne_true (is_byte3 34 40 59 (slice_index text k)) (h k (omega arith) l))

pub semicolon_found : (text : List ℕ) (n : ℕ) → IsFirstByte (is_byte3 34 40 59) text (Some n) → get_or text n 0 ≡ 59 → IsCutAt text n
semicolon_found text n h e = ended n text h.0.high (λ k l. false_from_ne_true (is_byte3 34 40 59 (slice_index text k)) (h.0.before k (omega arith) l)) e

pub other_found : (text rest : List ℕ) (n more : ℕ) → IsFirstByte (is_byte3 34 40 59) text (Some n) → rest ≡ drop n text → IsCutAt rest more → IsCutAt text (n + more)
other_found text rest n more h e cut =
    let short : n < length text = h.0.high in
    further n more text (omega (arith, short)) (λ k l. false_from_ne_true (is_byte3 34 40 59 (slice_index text k)) (h.0.before k (omega arith) l)) (rw e at cut)
