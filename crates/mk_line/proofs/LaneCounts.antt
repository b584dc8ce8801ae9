-- Bytes that pass a test, counted a block at a time.
use Rattle.std.proofs.Common.{◌≡◌, ◌+◌, ◌%◌, ◌^◌, ◌<◌, ◌≤◌, cond, ℕ, Bool, true, List, [], ◌∷◌, ◌++◌, map, length, take, drop, get_or, count_by, Fits, w8, refl, sym, ap, ap₂, ◌∙◌, arith}
use Rattle.std.proofs.lemmas.Bool.{agree_below, agree_below_at}
use Rattle.std.proofs.lemmas.Simd.{map-map, mask_l-mod, length-chunk, chunk-fits, chunk-drop, ones-mask_l}
use Rattle.std.proofs.lemmas.List.{length-map}
use Rattle.std.proofs.lemmas.List.Sums.{sum_by-append, sum_by-cons}
use lib.Count.{ones}
use lib.Lanes.{Each1, chunk, mask_l, top}

same_counts : (p q : ℕ → Bool) (xs : List ℕ) → Each1 (Fits w8) xs → ((x : ℕ) → x < 256 → p x ≡ q x) → count_by p xs ≡ count_by q xs
same_counts p q [] fits e = refl
same_counts p q (x ∷ xs) fits e =
    sum_by-cons (λ y. cond (p y) 1 0) x xs
    ∙ (ap₂ (λ b n. cond b 1 0 + n) (e x fits.0.fits) (same_counts p q xs fits.1 e)
    ∙ sym (sum_by-cons (λ y. cond (q y) 1 0) x xs))

-- a mask of the lanes at which a test passes tells how many there are
pub count_at : (q : ℕ → Bool) (text : List ℕ) (i : ℕ) (z : List ℕ) → i + 64 ≤ length text → ((k : ℕ) → Fits w8 (get_or text k 0))
    → (f : ℕ → ℕ) → z ≡ map f (chunk i 64 text) → agree_below (λ x. top 7 (f x)) q 256 ≡ true
    → ones (mask_l (map (top 7) z) % 2 ^ 64) ≡ count_by q (take 64 (drop i text))
count_at q text i z room fits f lanes all =
    let marks : ℕ → Bool = λ x. top 7 (f x) in
    let v = chunk i 64 text in
    let long : length v ≡ 64 = length-chunk i 64 text room in
    let mask : mask_l (map (top 7) z) % 2 ^ 64 ≡ mask_l (map marks v) =
    ap (λ l. mask_l l % 2 ^ 64) (ap (map (top 7)) lanes ∙ map-map (top 7) f v) ∙ mask_l-mod (map marks v) 64 (omega (arith, length-map v marks, long)) in
    ap ones mask
    ∙ (ones-mask_l marks v
    ∙ same_counts marks q v (chunk-fits w8 i 64 text fits) (λ x low. agree_below_at marks q 256 x all low))

counts-append : (p : ℕ → Bool) (xs ys : List ℕ) → count_by p (xs ++ ys) ≡ count_by p xs + count_by p ys
counts-append p xs ys = sum_by-append (λ x. cond (p x) 1 0) xs ys

-- a step of a loop over blocks
pub block_counted : (p : ℕ → Bool) (text : List ℕ) (place count found : ℕ) → count + count_by p (drop place text) ≡ count_by p text → found ≡ count_by p (take 64 (drop place text)) → (count + found) + count_by p (drop (place + 64) text) ≡ count_by p text
block_counted p text place count found so_far e =
    let parts : count_by p (drop place text) ≡ count_by p (take 64 (drop place text)) + count_by p (drop (place + 64) text) =
    ap (count_by p) (chunk-drop place 64 text) ∙ counts-append p (take 64 (drop place text)) (drop (place + 64) text) in
    omega (arith, so_far, e, parts)
