-- What a map from names has after a value is kept for one.
use Rattle.std.proofs.Common.{◌≡◌, ℕ, Bool, true, false, cond, Option, List, sym, subst, ◌∙◌, inl, inr}
use Rattle.std.specs.BTreeMap.{BTreeMap, UpdatesBy, get_by}
use Rattle.std.specs.Cmp.{eq_by_cmp_equiv}
use Rattle.std.specs.Cmp.Lexicographic.{slice_cmp, bytes_decides, nat_list_cmp_total, nat_list_eq_equiv, texts_ties}
use Rattle.std.specs.Global.{Vec}
use Rattle.std.specs.Map.{lookup, IsKeyTest, AreApart, KeepsOthers}
use Rattle.std.specs.Ordering.{is_eq, nat_cmp}
use Rattle.std.specs.Str.{bytes_eq}
use Rattle.std.proofs.lemmas.Bool.{cases_Bool, cond-true, cond-false}
use Rattle.std.specs.Prelude.{Some, None, is_some}
use Rattle.std.specs.Borrow.{Bor}
use Rattle.std.specs.Option.{option_map, option_or}
use Rattle.std.proofs.Common.{◌<◌, ◌+◌, refl, ap, suc, ◌∷◌, length, drop, get_or, drop-cons, add-one}
use Rattle.mk_head.specs.Values.{param_of}
use Rattle.mk_param.specs.SegmentViews.{value_at}

apart : (name other key : List ℕ) → bytes_eq name other ≡ false → is_eq (slice_cmp nat_cmp name key) ≡ true → is_eq (slice_cmp nat_cmp other key) ≡ false
apart name other key n y =
    sym (texts_ties other key) ∙ (nat_list_eq_equiv.symm other key ∙ (sym (nat_list_eq_equiv.congr name key other (texts_ties name key ∙ y)) ∙ n))

other_entries : {K X : Type 0} (eq : K → K → Bool) (test : K → Bool) (old new : List (K × X)) → KeepsOthers eq test old new → (other : K → Bool) → IsKeyTest eq other → AreApart test other → lookup other new ≡ lookup other old
unfolding KeepsOthers
other_entries eq test old new h = h

by_bytes : {X : Type 0} (f g : List ℕ → Option X) (name : List ℕ) (w : Option X) → g name ≡ w → ((other : List ℕ) → bytes_eq name other ≡ false → g other ≡ f other) → (other : List ℕ) → g other ≡ cond (bytes_eq name other) w (f other)
by_bytes f g name w here rest other =
    elim (cases_Bool (bytes_eq name other)) [
      | inl y ↦ subst (λ l. g l ≡ w) ((bytes_decides name other).0 y) here ∙ sym (cond-true (bytes_eq name other) w (f other) y)
      | inr n ↦ rest other n ∙ sym (cond-false (bytes_eq name other) w (f other) n)
    ]

-- what a map has after a value is kept for a name
pub kept_by_name : {X : Type 0} (old new : BTreeMap (Vec ℕ) X) (name : List ℕ) (w : Option X) → UpdatesBy (λ x y. slice_cmp nat_cmp x.items y.items) (λ key. slice_cmp nat_cmp name key.items) old new w
    → (other : List ℕ) → get_by (λ key. slice_cmp nat_cmp other key.items) new ≡ cond (bytes_eq name other) w (get_by (λ key. slice_cmp nat_cmp other key.items) old)
kept_by_name old new name w h =
    by_bytes (λ other. get_by (λ key. slice_cmp nat_cmp other key.items) old) (λ other. get_by (λ key. slice_cmp nat_cmp other key.items) new) name w h.1
    (λ other e. other_entries _ _ _ _ h.3 _ (λ x y. (eq_by_cmp_equiv nat_list_cmp_total).congr other x.items y.items) (λ key. apart name other key.items e))

-- so it is with the bytes of values
through : (b : Bool) (value : Bor (List ℕ)) (rest : Option (Bor (List ℕ))) → option_map (λ v. v.now) (cond b (Some value) rest) ≡ cond b (Some value.now) (option_map (λ v. v.now) rest)
through true value rest = refl
through false value rest = refl

pub kept_value : (old new : BTreeMap (Vec ℕ) (Bor (List ℕ))) (name : List ℕ) (value : Bor (List ℕ)) → UpdatesBy (λ x y. slice_cmp nat_cmp x.items y.items) (λ key. slice_cmp nat_cmp name key.items) old new (Some value)
    → (other : List ℕ) → value_at new other ≡ cond (bytes_eq name other) (Some value.now) (value_at old other)
kept_value old new name value h other =
    ap (option_map (λ v. v.now)) (kept_by_name old new name (Some value) h other) ∙ through (bytes_eq name other) value (get_by (λ key. slice_cmp nat_cmp other key.items) old)

pub some_mapped : {A B : Type 0} (f : A → B) (found : Option A) → is_some (option_map f found) ≡ is_some found
some_mapped f None = refl
some_mapped f (Some x) = refl

-- the items from a place on are the one there and those after it
pub items_at : {A : Type 0} (xs : List A) (i : ℕ) (x : A) → i < length xs → x ≡ get_or xs i x → drop i xs ≡ x ∷ drop (i + 1) xs
items_at xs i x l e = drop-cons xs i x l ∙ ap (λ y. y ∷ drop (suc i) xs) (sym e) ∙ ap (λ n. x ∷ drop n xs) (sym (add-one i))

-- the first value of a name is kept where the name is new
first_kept : (b : Bool) (value : List ℕ) (here rest : Option (List ℕ)) → (b ≡ true → is_some here ≡ false) → option_or here (cond b (Some value) rest) ≡ option_or (cond b (Some value) here) rest
first_kept true value None rest h = refl
first_kept true value (Some first) rest h = let bad : true ≡ false = h refl in cc
first_kept false value here rest h = refl

pub values_more : (old new : List ℕ → Option (List ℕ)) (name value : List ℕ) (rest : List (List ℕ × List ℕ)) → is_some (old name) ≡ false → ((other : List ℕ) → new other ≡ cond (bytes_eq name other) (Some value) (old other))
    → (asked : List ℕ) → option_or (old asked) (param_of asked ((name, value) ∷ rest)) ≡ option_or (new asked) (param_of asked rest)
values_more old new name value rest none kept asked =
    first_kept (bytes_eq name asked) value (old asked) (param_of asked rest) (λ same. subst (λ n. is_some (old n) ≡ false) ((bytes_decides name asked).0 same) none)
    ∙ ap (λ found. option_or found (param_of asked rest)) (sym (kept asked))

-- and stays where it isn't
first_stays : (b : Bool) (value : List ℕ) (here rest : Option (List ℕ)) → (b ≡ true → is_some here ≡ true) → option_or here (cond b (Some value) rest) ≡ option_or here rest
first_stays b value (Some first) rest h = refl
first_stays false value None rest h = refl
first_stays true value None rest h = let bad : false ≡ true = h refl in cc

pub values_stay : (old : List ℕ → Option (List ℕ)) (name value : List ℕ) (rest : List (List ℕ × List ℕ)) → is_some (old name) ≡ true
    → (asked : List ℕ) → option_or (old asked) (param_of asked ((name, value) ∷ rest)) ≡ option_or (old asked) (param_of asked rest)
values_stay old name value rest some asked =
    first_stays (bytes_eq name asked) value (old asked) (param_of asked rest) (λ same. subst (λ n. is_some (old n) ≡ true) ((bytes_decides name asked).0 same) some)
