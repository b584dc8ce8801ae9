-- Runs of bytes that pass a test, found a block at a time.
use Rattle.std.proofs.Common.{◌≡◌, ◌==◌, ◌+◌, ◌-◌, ◌%◌, ◌^◌, ◌<◌, ◌≤◌, if◌then◌else◌, cond, eqb, ℕ, suc, zero, Bool, true, false, not, List, [], ◌∷◌, map, length, take, drop, length-drop, get_or, replicate, Fits, w8, refl, sym, ap, ap₂, ◌∙◌, arith, inl, inr}
use Rattle.std.proofs.lemmas.Bool.{agree_below, agree_below_at, cases_Bool}
use Rattle.std.proofs.lemmas.Simd.{zip2-map, map-map, mask_l-mod, length-chunk, chunk-fits, first_set_mask_l, splat_is_map, zip2_splat}
use Rattle.std.proofs.lemmas.List.{length-map, drop-drop}
use Rattle.std.proofs.lemmas.List.Sums.{prefix_len-le-length}
use Rattle.std.specs.List.{prefix_len}
use Rattle.std.specs.Int.{w64, trailing_zeros}
use lib.Lanes.{Each1, chunk, zip2, mask_l, top}

-- an operation on two vectors that were computed lane by lane from one
pub joined : (h : ℕ → ℕ → ℕ) (f g : ℕ → ℕ) (v : List ℕ) {a b : List ℕ} → a ≡ map f v → b ≡ map g v → zip2 h a b ≡ map (λ x. h (f x) (g x)) v
joined h f g v p q = ap₂ (zip2 h) p q ∙ zip2-map h f g v

same_runs : (p q : ℕ → Bool) (xs : List ℕ) → Each1 (Fits w8) xs → ((x : ℕ) → x < 256 → p x ≡ q x) → prefix_len p xs ≡ prefix_len q xs
same_runs p q [] fits e = refl
same_runs p q (x ∷ xs) fits e = ap₂ (λ b n. if b then 1 + n else 0) (e x fits.0.fits) (same_runs p q xs fits.1 e)

not_not : (b : Bool) → not (not b) ≡ b
not_not true = refl
not_not false = refl

-- a mask of the lanes at which a test fails tells how many come before the first
pub run_at : (q : ℕ → Bool) (text : List ℕ) (i r : ℕ) (z : List ℕ) → i + 16 ≤ length text → ((k : ℕ) → Fits w8 (get_or text k 0))
    → r ≡ (if mask_l (map (top 7) z) % 2 ^ 64 == 0 then 16 else trailing_zeros w64 (mask_l (map (top 7) z) % 2 ^ 64))
    → (f : ℕ → ℕ) → z ≡ map f (chunk i 16 text) → agree_below (λ x. top 7 (f x)) (λ x. not (q x)) 256 ≡ true
    → r ≡ prefix_len q (take 16 (drop i text))
run_at q text i r z room fits e f lanes all =
    let stops : ℕ → Bool = λ x. top 7 (f x) in
    let v = chunk i 16 text in
    let long : length v ≡ 16 = length-chunk i 16 text room in
    let mask : mask_l (map (top 7) z) % 2 ^ 64 ≡ mask_l (map stops v) =
    ap (λ l. mask_l l % 2 ^ 64) (ap (map (top 7)) lanes ∙ map-map (top 7) f v) ∙ mask_l-mod (map stops v) 64 (omega (arith, length-map v stops, long)) in
    e ∙ (ap (λ m. if m == 0 then 16 else trailing_zeros w64 m) mask
    ∙ (first_set_mask_l stops v 16 long (omega arith)
    ∙ same_runs (λ x. not (stops x)) q v (chunk-fits w8 i 16 text fits) (λ x low. ap not (agree_below_at stops (λ x. not (q x)) 256 x all low) ∙ not_not (q x))))

pub run_few : (q : ℕ → Bool) (text : List ℕ) (i r : ℕ) → i + 16 ≤ length text → r ≡ prefix_len q (take 16 (drop i text)) → r ≤ 16
run_few q text i r room e = omega (arith, e, length-chunk i 16 text room, prefix_len-le-length q (take 16 (drop i text)))

-- a run that ends in a block, and one that goes on after it
run_ends : (p : ℕ → Bool) (n : ℕ) (xs : List ℕ) → prefix_len p (take n xs) < n → n ≤ length xs → prefix_len p xs ≡ prefix_len p (take n xs)
run_ends p zero xs short room = absurd (omega (arith, short))
run_ends p (suc n) [] short room = absurd (omega (arith, room))
run_ends p (suc n) (x ∷ xs) short room =
    elim (cases_Bool (p x)) [
      | inl t ↦
          let less : 1 + prefix_len p (take n xs) < suc n = (rw t at short) in
          rw t (ap (λ m. 1 + m) (run_ends p n xs (omega arith) (omega (arith, room))))
      | inr f ↦ rw f refl
    ]

run_goes_on : (p : ℕ → Bool) (n : ℕ) (xs : List ℕ) → n ≤ prefix_len p (take n xs) → n ≤ length xs → prefix_len p xs ≡ n + prefix_len p (drop n xs)
run_goes_on p zero xs whole room = omega arith
run_goes_on p (suc n) [] whole room = absurd (omega (arith, room))
run_goes_on p (suc n) (x ∷ xs) whole room =
    elim (cases_Bool (p x)) [
      | inl t ↦
          let more : suc n ≤ 1 + prefix_len p (take n xs) = (rw t at whole) in
          let rest = run_goes_on p n xs (omega arith) (omega (arith, room)) in
          rw t (omega (arith, rest))
      | inr f ↦ let none : suc n ≤ 0 = (rw f at whole) in absurd (omega (arith, none))
    ]

-- the steps of a loop over blocks
pub block_ends : (p : ℕ → Bool) (text : List ℕ) (size run : ℕ) → prefix_len p text ≡ size + prefix_len p (drop size text) → size + 16 ≤ length text → run ≡ prefix_len p (take 16 (drop size text)) → run < 16 → size + run ≡ prefix_len p text
block_ends p text size run so_far room e short =
    let left = length-drop size text in
    let here = run_ends p 16 (drop size text) (omega (arith, e, short)) (omega (arith, room, left)) in
    omega (arith, so_far, e, here)

pub block_passed : (p : ℕ → Bool) (text : List ℕ) (size run : ℕ) → prefix_len p text ≡ size + prefix_len p (drop size text) → size + 16 ≤ length text → run ≡ prefix_len p (take 16 (drop size text)) → run ≡ 16 → prefix_len p text ≡ (size + run) + prefix_len p (drop (size + run) text)
block_passed p text size run so_far room e whole =
    let left = length-drop size text in
    let here = run_goes_on p 16 (drop size text) (omega (arith, e, whole)) (omega (arith, room, left)) in
    let far : prefix_len p (drop 16 (drop size text)) ≡ prefix_len p (drop (size + run) text) = let place : size + 16 ≡ size + run = omega arith in ap (prefix_len p) (drop-drop 16 size text ∙ ap (λ k. drop k text) place) in
    omega (arith, so_far, here, far, whole)
