-- Leaves that are chosen one after another.
use Rattle.std.proofs.Common.{◌≡◌, ◌++◌, ℕ, true, false, List, [], ◌∷◌, ap, ◌∙◌, append_assoc, map}
use Rattle.std.proofs.lemmas.List.{map-append}
use Rattle.mk_tree.specs.Documents.{Document}
use Rattle.mk_view.specs.declared.storing.Leaf.{Leaf}
use Rattle.mk_view.specs.FileNames.{Named}
use Rattle.mk_view.specs.GivenNames.{AreSafe, is_safe}
use Rattle.mk_view.specs.LeafViews.{AreAt, IsAt, leaf_view}
use Rattle.mk_show.specs.Chosen.{is_within, within}

-- a leaf was kept
pub kept_more : (sections : List (List ℕ)) (kept more : List Leaf) (leaf : Leaf) (rest all : List Named) → more ≡ kept ++ leaf ∷ []
    → is_within sections leaf.path.items ≡ true → map leaf_view kept ++ within sections (leaf_view leaf ∷ rest) ≡ all → map leaf_view more ++ within sections rest ≡ all
kept_more sections kept more leaf rest all e at_it h =
    ap (λ ls. map leaf_view ls ++ within sections rest) e
    ∙ (ap (λ ls. ls ++ within sections rest) (map-append leaf_view kept (leaf ∷ []))
    ∙ (append_assoc (map leaf_view kept) (leaf_view leaf ∷ []) (within sections rest) ∙ rw at_it at h))

-- a leaf was not kept
pub kept_same : (sections : List (List ℕ)) (kept : List Leaf) (leaf : Leaf) (rest all : List Named)
    → is_within sections leaf.path.items ≡ false → map leaf_view kept ++ within sections (leaf_view leaf ∷ rest) ≡ all → map leaf_view kept ++ within sections rest ≡ all
kept_same sections kept leaf rest all off h = rw off at h

names_more : (xs : List Named) (x : Named) → AreSafe xs → is_safe x.1 ≡ true → AreSafe (xs ++ x ∷ [])
names_more [] x safe h = (h, tt)
names_more (y ∷ ys) x safe h = (safe.0, names_more ys x safe.1 h)

-- its name is safe too
pub safe_more : (kept more : List Leaf) (leaf : Leaf) → more ≡ kept ++ leaf ∷ [] → AreSafe (map leaf_view kept) → is_safe leaf.name.items ≡ true → AreSafe (map leaf_view more)
safe_more kept more leaf e safe h = rw (e, map-append leaf_view kept (leaf ∷ [])) (names_more (map leaf_view kept) (leaf_view leaf) safe h)

placed_more : (t : Document) (xs : List Leaf) (x : Leaf) → AreAt t xs → IsAt t x → AreAt t (xs ++ x ∷ [])
placed_more t [] x at h = (h, tt)
placed_more t (y ∷ ys) x at h = (at.0, placed_more t ys x at.1 h)

-- it is at its place too
pub at_more : (t : Document) (kept more : List Leaf) (leaf : Leaf) → more ≡ kept ++ leaf ∷ [] → AreAt t kept → IsAt t leaf → AreAt t more
at_more t kept more leaf e at h = rw e (placed_more t kept leaf at h)
