-- Bytes cut at one byte.
use Rattle.std.proofs.Common.{◌≡◌, ◌==◌, ◌<◌, ◌+◌, ◌-◌, ℕ, suc, zero, true, false, List, [], ◌∷◌, ◌++◌, refl, ap, sym, ◌∙◌, length, take, drop, slice_index, arith, Some, None, add-one}
use Rattle.std.proofs.lemmas.Bool.{eqb-true, false_from_ne_true}
use Rattle.std.proofs.lemmas.List.{take_rest}
use Rattle.memchr.specs.Find.{IsFirstByte, is_byte}
use Rattle.mk_line.specs.Parting.{before, following, has_byte}

-- no place has the byte
pub lacks_all : (b : ℕ) (text : List ℕ) → ((k : ℕ) → k < length text → (slice_index text k == b) ≡ false) → has_byte b text ≡ false
lacks_all b [] h = refl
lacks_all b (x ∷ xs) h = rw (h 0 (omega arith)) (lacks_all b xs (λ k l. h (suc k) (omega arith)))

lacks_front : (b : ℕ) (text : List ℕ) (n : ℕ) → ((k : ℕ) → k < n → (slice_index text k == b) ≡ false) → has_byte b (take n text) ≡ false
lacks_front b text zero h = refl
lacks_front b [] (suc n) h = refl
lacks_front b (x ∷ xs) (suc n) h = rw (h 0 (omega arith)) (lacks_front b xs n (λ k l. h (suc k) (omega arith)))

parted : (b : ℕ) (text : List ℕ) (n : ℕ) → n < length text → (slice_index text n == b) ≡ true → text ≡ take n text ++ b ∷ drop (suc n) text
parted b [] n l h = let none : n < 0 = l in absurd (omega arith)
parted b (x ∷ xs) zero l h = ap (λ y. y ∷ xs) (eqb-true x b h)
parted b (x ∷ xs) (suc n) l h = ap (λ ys. x ∷ ys) (parted b xs n (omega (arith, l)) h)

-- what a search for the byte says
pub split_found : (b : ℕ) (text : List ℕ) (n : ℕ) → IsFirstByte (is_byte b) text (Some n) → text ≡ take n text ++ b ∷ take (length text - (n + 1)) (drop (n + 1) text)
split_found b text n h = parted b text n h.0.high h.1 ∙ ap (λ k. take n text ++ b ∷ drop k text) (sym (add-one n)) ∙ ap (λ xs. take n text ++ b ∷ xs) (sym (take_rest text (n + 1)))

pub split_first : (b : ℕ) (text : List ℕ) (n : ℕ) → IsFirstByte (is_byte b) text (Some n) → has_byte b (take n text) ≡ false
split_first b text n h = lacks_front b text n (λ k l. false_from_ne_true (slice_index text k == b) (h.0.before k (omega arith) l))

pub split_unfound : (b : ℕ) (text : List ℕ) → IsFirstByte (is_byte b) text None → has_byte b text ≡ false
split_unfound b text h = lacks_all b text (λ k l. false_from_ne_true (slice_index text k == b) (h k (omega arith) l))

-- before and after the first byte of a kind
before_none : (mark : ℕ) (text : List ℕ) → ((k : ℕ) → k < length text → (slice_index text k == mark) ≡ false) → following mark text ≡ None
before_none mark [] h = refl
before_none mark (b ∷ text) h = rw (h 0 (omega arith)) (before_none mark text (λ k l. h (suc k) (omega arith)))

before_at : (mark n : ℕ) (text : List ℕ) → n < length text → ((k : ℕ) → k < n → (slice_index text k == mark) ≡ false) → (slice_index text n == mark) ≡ true → (take n text ≡ before mark text) × (following mark text ≡ Some (drop (suc n) text))
before_at mark n [] l h e = let none : n < 0 = l in absurd (omega arith)
before_at mark zero (b ∷ text) l h e = (rw e refl, rw e refl)
before_at mark (suc n) (b ∷ text) l h e =
    let p = before_at mark n text (omega (arith, l)) (λ k q. h (suc k) (omega arith)) e in
    (rw (h 0 (omega arith)) (ap (λ xs. b ∷ xs) p.0), rw (h 0 (omega arith)) p.1)

pub unfound : (mark : ℕ) (text : List ℕ) → IsFirstByte (is_byte mark) text None → following mark text ≡ None
unfound mark text h = before_none mark text (λ k l. false_from_ne_true (slice_index text k == mark) (h k (omega arith) l))

pub found : (mark end : ℕ) (text : List ℕ) → IsFirstByte (is_byte mark) text (Some end) → (take end text ≡ before mark text) × (following mark text ≡ Some (take (length text - (end + 1)) (drop (end + 1) text)))
found mark end text h =
    let p = before_at mark end text h.0.high (λ k l. false_from_ne_true (slice_index text k == mark) (h.0.before k (omega arith) l)) h.1 in
    (p.0, p.1 ∙ ap (λ xs. Some xs) (ap (λ n. drop n text) (sym (add-one end)) ∙ sym (take_rest text (end + 1))))
