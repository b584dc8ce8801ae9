-- Names that are given in turn, one more at the end.
use Rattle.std.proofs.Common.{◌≡◌, ◌++◌, ℕ, Option, List, [], ◌∷◌, refl, sym, ap, subst, ◌∙◌, map}
use Rattle.std.proofs.lemmas.List.{map-append}
use Rattle.mk_view.specs.declared.storing.Leaf.{Leaf}
use Rattle.mk_view.specs.FileNames.{Named}
use Rattle.mk_view.specs.GivenNames.{AreGiven, IsGiven, given_after}
use Rattle.mk_view.specs.LeafViews.{leaf_view}
use Rattle.mk_view.specs.inner.Taken.{Knows}

after_more : (names : List (List ℕ)) (gs : List Named) (g : Named) → given_after names (gs ++ g ∷ []) ≡ g.1 ∷ given_after names gs
after_more names [] g = refl
after_more names (h ∷ gs) g = after_more (h.1 ∷ names) gs g

given_more : (names : List (List ℕ)) (os gs : List Named) (o g : Named) → AreGiven names os gs → g.0 ≡ o.0 → IsGiven (given_after names gs) o.1 g.1 → AreGiven names (os ++ o ∷ []) (gs ++ g ∷ [])
given_more names [] [] o g h p i = (p, i, tt)
given_more names [] (x ∷ gs) o g h p i = absurd h
given_more names (x ∷ os) [] o g h p i = absurd h
given_more names (x ∷ os) (y ∷ gs) o g h p i = (h.0, h.1, given_more (y.1 ∷ names) os gs o g h.2 p i)

-- what is known of the names so far
pub known_more : (f : List ℕ → Option ℕ) (ns more : List Leaf) (g : Leaf) → more ≡ ns ++ g ∷ [] → Knows f (g.name.items ∷ given_after [] (map leaf_view ns)) → Knows f (given_after [] (map leaf_view more))
known_more f ns more g e k =
    subst (Knows f)
    (sym (ap (λ xs. given_after [] (map leaf_view xs)) e ∙ (ap (given_after []) (map-append leaf_view ns (g ∷ [])) ∙ after_more [] (map leaf_view ns) (leaf_view g))))
    k

pub told_more : (os ns more : List Leaf) (o g : Leaf) → more ≡ ns ++ g ∷ [] → g.path.items ≡ o.path.items → AreGiven [] (map leaf_view os) (map leaf_view ns) → IsGiven (given_after [] (map leaf_view ns)) o.name.items g.name.items
    → AreGiven [] (map leaf_view (os ++ o ∷ [])) (map leaf_view more)
told_more os ns more o g e p h i =
    let left = map-append leaf_view os (o ∷ []) in
    let right = ap (map leaf_view) e ∙ map-append leaf_view ns (g ∷ []) in
    subst (λ (q : List Named × List Named). AreGiven [] q.0 q.1) (λ j. (sym left j, sym right j))
    (given_more [] (map leaf_view os) (map leaf_view ns) (leaf_view o) (leaf_view g) h p i)
