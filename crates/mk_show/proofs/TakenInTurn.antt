-- Portions that are given one after another.
use Rattle.std.proofs.Common.{◌≡◌, ◌<◌, ◌≤◌, ◌+◌, ℕ, List, [], ◌∷◌, refl, ap, sym, subst, ◌∙◌, length, drop}
use Rattle.std.specs.Global.{Vec}
use Rattle.std.specs.Prelude.{get_or}
use Rattle.std.proofs.lemmas.List.{drop_all, drop_more}
use Rattle.mk_script.specs.ScriptViews.{items_of}
use Rattle.mk_transfer.specs.Said.{Said, said_after, silence}
use Rattle.mk_show.specs.declared.portions.Portion.{Portion}
use Rattle.mk_show.specs.Portions.{AreTakenAs, IsTakenAs, run_of_said}
use Rattle.mk_show.proofs.UnpackLemmas.{following-following, following-silence}

-- what is said so far, where what is still to come makes of it what is said of all
abbrev pub Completes : Portion → List (Vec ℕ) → List ℕ → ℕ → Said → Type 0
Completes wanted paths doc i sofar = (more : Said) → AreTakenAs wanted (items_of (drop i paths)) doc more → AreTakenAs wanted (items_of paths) doc (said_after sofar more)

-- one portion more
pub taken_more : (wanted : Portion) (paths : List (Vec ℕ)) (i : ℕ) (path : Vec ℕ) (doc : List ℕ) (sofar first after : Said) → i < length paths → path ≡ get_or paths i path
    → IsTakenAs wanted path.items doc (run_of_said first) → after ≡ said_after sofar first → Completes wanted paths doc i sofar → Completes wanted paths doc (i + 1) after
taken_more wanted paths i path doc sofar first after lt e taken is before more h =
    let split : items_of (drop i paths) ≡ path.items ∷ items_of (drop (i + 1) paths) = ap items_of (drop_more paths i path lt ∙ ap (λ p. p ∷ drop (i + 1) paths) (sym e)) in
    let here : AreTakenAs wanted (items_of (drop i paths)) doc (said_after first more) = subst (λ ps. AreTakenAs wanted ps doc (said_after first more)) (sym split) (first, more, taken, h, refl) in
    subst (AreTakenAs wanted (items_of paths) doc) (sym (ap (λ s. said_after s more) is ∙ following-following sofar first more)) (before (said_after first more) here)

-- all portions
pub taken_whole : (wanted : Portion) (paths : List (Vec ℕ)) (i : ℕ) (doc : List ℕ) (sofar : Said) → length paths ≤ i → Completes wanted paths doc i sofar → AreTakenAs wanted (items_of paths) doc sofar
taken_whole wanted paths i doc sofar le before =
    let none : items_of (drop i paths) ≡ [] = ap items_of (drop_all i paths le) in
    subst (AreTakenAs wanted (items_of paths) doc) (sym (following-silence sofar)) (before silence (subst (λ ps. AreTakenAs wanted ps doc silence) (sym none) refl))
