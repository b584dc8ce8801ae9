-- Leaves in memory that are unpacked in turn.
use Rattle.std.proofs.Common.{◌≡◌, ◌<◌, ◌≤◌, ◌+◌, ◌++◌, ℕ, zero, suc, Bool, true, List, [], ◌∷◌, ap, sym, subst, ◌∙◌, length, map, take, drop, arith}
use Rattle.std.specs.Prelude.{get_or}
use Rattle.std.proofs.lemmas.List.{drop_more, map-append, take-append-drop, take_all, take_more}
use Rattle.mk_tree.specs.Documents.{Document}
use Rattle.mk_view.specs.declared.storing.Leaf.{Leaf}
use Rattle.mk_view.specs.GivenNames.{AreSafe, is_safe}
use Rattle.mk_view.specs.LeafViews.{AreAt, IsAt, leaf_view}
use Rattle.mk_show.specs.Unpacking.{Task, task_of}

-- leaves as what is to be done with them
abbrev pub tasks : Bool → List Leaf → List Task
tasks cut ls = map (task_of cut) (map leaf_view ls)

tasks-append : (cut : Bool) (xs ys : List Leaf) → tasks cut (xs ++ ys) ≡ tasks cut xs ++ tasks cut ys
tasks-append cut xs ys = ap (map (task_of cut)) (map-append leaf_view xs ys) ∙ map-append (task_of cut) (map leaf_view xs) (map leaf_view ys)

-- one leaf more at the front
pub tasks_more : (cut : Bool) (ls : List Leaf) (i : ℕ) (l : Leaf) → i < length ls → l ≡ get_or ls i l → tasks cut (take (i + 1) ls) ≡ tasks cut (take i ls) ++ task_of cut (leaf_view l) ∷ []
tasks_more cut ls i l lt e =
    ap (tasks cut) (take_more ls i l lt ∙ ap (λ r. take i ls ++ r ∷ []) (sym e)) ∙ tasks-append cut (take i ls) (l ∷ [])

-- those before a leaf, the leaf, and those after it
pub tasks_around : (cut : Bool) (ls : List Leaf) (i : ℕ) (l : Leaf) → i < length ls → l ≡ get_or ls i l
    → tasks cut ls ≡ tasks cut (take i ls) ++ (task_of cut (leaf_view l) ∷ tasks cut (drop (i + 1) ls))
tasks_around cut ls i l lt e =
    ap (tasks cut) (sym (take-append-drop i ls) ∙ ap (λ r. take i ls ++ r) (drop_more ls i l lt ∙ ap (λ r. r ∷ drop (i + 1) ls) (sym e)))
    ∙ tasks-append cut (take i ls) (l ∷ drop (i + 1) ls)

-- all leaves
pub tasks_all : (cut : Bool) (ls : List Leaf) (i : ℕ) → length ls ≤ i → tasks cut (take i ls) ≡ tasks cut ls
tasks_all cut ls i le = ap (tasks cut) (take_all i ls le)

-- each stands at its path
pub at_index : (t : Document) (ls : List Leaf) (i : ℕ) (l : Leaf) → i < length ls → l ≡ get_or ls i l → AreAt t ls → IsAt t l
at_index t [] i l lt e h = absurd (omega (arith, lt))
at_index t (x ∷ xs) zero l lt e h = subst (IsAt t) (sym e) h.0
at_index t (x ∷ xs) (suc i) l lt e h = at_index t xs i l (omega (arith, lt)) e h.1

-- each has the name of a file
pub safe_at : (ls : List Leaf) (i : ℕ) (l : Leaf) → i < length ls → l ≡ get_or ls i l → AreSafe (map leaf_view ls) → is_safe l.name.items ≡ true
safe_at [] i l lt e h = absurd (omega (arith, lt))
safe_at (x ∷ xs) zero l lt e h = ap (λ (k : Leaf). is_safe k.name.items) e ∙ h.0
safe_at (x ∷ xs) (suc i) l lt e h = safe_at xs i l (omega (arith, lt)) e h.1
