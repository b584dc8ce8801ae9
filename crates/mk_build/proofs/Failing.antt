-- The first that meets a test, and texts written one after another.
use Rattle.std.proofs.Common.{◌≡◌, ◌&&◌, ◌||◌, ◌+◌, ◌++◌, ℕ, zero, suc, Bool, true, false, Option, None, Some, List, [], ◌∷◌, refl, ap, sym, ◌∙◌, length, map, drop, get_or, arith, append_assoc, inl, inr, ◌<◌, ◌≤◌}
use Rattle.std.specs.List.{flat_map, list_all, list_any, position, position_or_len}
use Rattle.std.specs.Option.{option_map}
use Rattle.std.specs.Prelude.{cond, nat_lt}
use Rattle.std.proofs.lemmas.Bool.{cases_Bool, le-ltb, lt-ltb, ltb-false, ltb-true}

-- a place after so many others
abbrev pub following : ℕ → Option ℕ → Option ℕ
following n o = option_map (λ k. n + k) o

after_one : (n : ℕ) (o : Option ℕ) → following n (option_map suc o) ≡ following (n + 1) o
after_one n None = refl
after_one n (Some k) = ap (λ m. Some m) (omega arith)

-- a place in a list with one before it that isn't found
less_more : (k n : ℕ) → nat_lt (1 + k) (suc n) ≡ nat_lt k n
less_more k n = elim (cases_Bool (nat_lt k n)) [
  | inl t ↦ lt-ltb (1 + k) (suc n) (omega (arith, ltb-true k n t)) ∙ sym t
  | inr f ↦ le-ltb (1 + k) (suc n) (omega (arith, ltb-false k n f)) ∙ sym f
]

more_by : (t : Bool) (n : ℕ) → cond t (Some (1 + n)) None ≡ option_map suc (cond t (Some n) None)
more_by true n = let one : 1 + n ≡ suc n = omega arith in ap (λ k. Some k) one
more_by false n = refl

pub position_more : {X : Type 0} (p : X → Bool) (x : X) (xs : List X) → p x ≡ false → position p (x ∷ xs) ≡ option_map suc (position p xs)
position_more p x xs h =
    let k = position_or_len p xs in
    rw h (ap (λ t. cond t (Some (1 + k)) None) (less_more k (length xs)) ∙ more_by (nat_lt k (length xs)) k)

-- and with one before it that is
pub position_here : {X : Type 0} (p : X → Bool) (x : X) (xs : List X) → p x ≡ true → position p (x ∷ xs) ≡ Some 0
position_here p x xs h = rw h (ap (λ t. cond t (Some 0) None) (lt-ltb 0 (suc (length xs)) (omega arith)))

-- the first that is found is not among those that were looked at
pub passes : {X : Type 0} (p : X → Bool) (n : ℕ) (xs rest : List X) (x : X) (o : Option ℕ) → xs ≡ x ∷ rest → p x ≡ false → following n (position p xs) ≡ o → following (n + 1) (position p rest) ≡ o
passes p n xs rest x o e t h = sym (after_one n (position p rest)) ∙ (ap (following n) (sym (ap (position p) e ∙ position_more p x rest t)) ∙ h)

some_at : (n : ℕ) → ◌≡◌ {A = Option ℕ} (Some n) (following n (Some 0))
some_at n = let e : n ≡ n + 0 = omega arith in ap (λ m. Some m) e

pub fails : {X : Type 0} (p : X → Bool) (n : ℕ) (xs rest : List X) (x : X) (o : Option ℕ) → xs ≡ x ∷ rest → p x ≡ true → following n (position p xs) ≡ o → Some n ≡ o
fails p n xs rest x o e t h = some_at n ∙ (ap (following n) (sym (ap (position p) e ∙ position_here p x rest t)) ∙ h)

-- the list from an index on
pub from_index : {X Y : Type 0} (f : X → Y) (i : ℕ) (xs : List X) (x : X) → i < length xs → x ≡ get_or xs i x → drop i (map f xs) ≡ f x ∷ drop (i + 1) (map f xs)
from_index f i [] x h e = absurd (omega (arith, h))
from_index f zero (y ∷ ys) x h e = ap (λ z. f z ∷ map f ys) (sym e)
from_index f (suc i) (y ∷ ys) x h e = let n : suc (i + 1) ≡ suc i + 1 = omega arith in from_index f i ys x (omega (arith, h)) e ∙ ap (λ k. f x ∷ drop k (map f (y ∷ ys))) n

pub at_end : {X Y : Type 0} (f : X → Y) (i : ℕ) (xs : List X) → length xs ≤ i → drop i (map f xs) ≡ []
at_end f zero [] h = refl
at_end f (suc i) [] h = refl
at_end f zero (y ∷ ys) h = absurd (omega (arith, h))
at_end f (suc i) (y ∷ ys) h = at_end f i ys (omega (arith, h))

-- a text and what is still to be written
pub written_one : {Y : Type 0} (g : Y → List ℕ) (old new goal_text : List ℕ) (ys rest : List Y) (y : Y) → ys ≡ y ∷ rest → new ≡ old ++ g y → old ++ flat_map g ys ≡ goal_text → new ++ flat_map g rest ≡ goal_text
written_one g old new goal_text ys rest y e w h = ap (λ t. t ++ flat_map g rest) w ∙ (append_assoc old (g y) (flat_map g rest) ∙ (ap (λ zs. old ++ flat_map g zs) (sym e) ∙ h))

-- what was made of a front, and what the rest is made into
mapped_end : {W Y : Type 0} (g : W → Y) (ws : List W) (w : W) (rest : List Y) → map g (ws ++ w ∷ []) ++ rest ≡ map g ws ++ (g w ∷ rest)
mapped_end g [] w rest = refl
mapped_end g (x ∷ ws) w rest = ap (λ t. g x ∷ t) (mapped_end g ws w rest)

pub mapped_one : {W Y : Type 0} (g : W → Y) (ws new : List W) (w : W) (ys rest all : List Y) (y : Y) → new ≡ ws ++ w ∷ [] → ys ≡ y ∷ rest → g w ≡ y → map g ws ++ ys ≡ all → map g new ++ rest ≡ all
mapped_one g ws new w ys rest all y n e m h =
    ap (λ list. map g list ++ rest) n ∙ (mapped_end g ws w rest ∙ ((λ i. map g ws ++ (m i ∷ rest)) ∙ (ap (λ list. map g ws ++ list) (sym e) ∙ h)))

-- one test more of a list
pub any_hit : {X : Type 0} (p : X → Bool) (ys zs rest : List X) (y : X) → ys ≡ y ∷ rest → p y ≡ true → list_any p ys ≡ list_any p zs → true ≡ list_any p zs
any_hit p ys zs rest y e t h = sym (ap (list_any p) e ∙ ap (λ b. b || list_any p rest) t) ∙ h

pub any_miss : {X : Type 0} (p : X → Bool) (ys zs rest : List X) (y : X) → ys ≡ y ∷ rest → p y ≡ false → list_any p ys ≡ list_any p zs → list_any p rest ≡ list_any p zs
any_miss p ys zs rest y e t h = sym (ap (list_any p) e ∙ ap (λ b. b || list_any p rest) t) ∙ h

pub all_hit : {X : Type 0} (p : X → Bool) (ys zs rest : List X) (y : X) → ys ≡ y ∷ rest → p y ≡ true → list_all p ys ≡ list_all p zs → list_all p rest ≡ list_all p zs
all_hit p ys zs rest y e t h = sym (ap (list_all p) e ∙ ap (λ b. b && list_all p rest) t) ∙ h

pub all_miss : {X : Type 0} (p : X → Bool) (ys zs rest : List X) (y : X) → ys ≡ y ∷ rest → p y ≡ false → list_all p ys ≡ list_all p zs → false ≡ list_all p zs
all_miss p ys zs rest y e t h = sym (ap (list_all p) e ∙ ap (λ b. b && list_all p rest) t) ∙ h
