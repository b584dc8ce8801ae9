-- Steps in memory and the lines that list them.
use Rattle.std.proofs.Common.{◌≡◌, ◌+◌, ◌-◌, ◌<◌, ◌≤◌, ◌++◌, ◌∙◌, ℕ, zero, suc, nat_lt, Result, Ok, Err, List, [], ◌∷◌, refl, ap, sym, length, map, drop, get_or, append_assoc, arith}
use Rattle.std.proofs.lemmas.List.{length-map}
use Rattle.mk_splice.specs.declared.journals.Journal.{Journal}
use Rattle.mk_splice.specs.Splices.{Splice}
use Rattle.mk_splice.specs.Journals.{JournalText}
use Rattle.mk_splice.specs.JournalViews.{SaysText}
use Rattle.mk_splice.specs.Views.{splice_of}
use Rattle.mk_journal.specs.StepLines.{lines_of_steps, step_line}
use Rattle.mk_journal.specs.AllSteps.{done_in, times, undone_in}

-- a list from an index on
pub rest_from : {X Y : Type 0} (f : X → Y) (i : ℕ) (xs : List X) (x : X) → i < length xs → x ≡ get_or xs i x → drop i (map f xs) ≡ f x ∷ drop (i + 1) (map f xs)
rest_from f i [] x h e = absurd (omega (arith, h))
rest_from f zero (y ∷ ys) x h e = ap (λ z. f z ∷ map f ys) (sym e)
rest_from f (suc i) (y ∷ ys) x h e = let n : suc (i + 1) ≡ suc i + 1 = omega arith in rest_from f i ys x (omega (arith, h)) e ∙ ap (λ k. f x ∷ drop k (map f (y ∷ ys))) n

-- nothing is left at the end
pub none_from : {X Y : Type 0} (f : X → Y) (i : ℕ) (xs : List X) → length xs ≤ i → drop i (map f xs) ≡ []
none_from f zero [] h = refl
none_from f (suc i) [] h = refl
none_from f zero (y ∷ ys) h = absurd (omega (arith, h))
none_from f (suc i) (y ∷ ys) h = none_from f i ys (omega (arith, h))

-- a line more, and the lines that are still to be written
pub one_line : (i done : ℕ) (old new goal : List ℕ) (steps rest : List (List Splice)) (step : List Splice) → steps ≡ step ∷ rest → new ≡ old ++ step_line (i + 1) (nat_lt i done) step
    → old ++ lines_of_steps i done steps ≡ goal → new ++ lines_of_steps (i + 1) done rest ≡ goal
one_line i done old new goal steps rest step e w h =
    ap (λ t. t ++ lines_of_steps (i + 1) done rest) w
    ∙ (append_assoc old (step_line (i + 1) (nat_lt i done) step) (lines_of_steps (i + 1) done rest) ∙ (ap (λ ss. old ++ lines_of_steps i done ss) (sym e) ∙ h))

-- what a journal in memory has done, and what not
pub done_said : (j : Journal) (r : Result JournalText ℕ) → SaysText j r → j.done ≡ done_in r
done_said j (Ok text) s = ap (λ m. m.done) s
done_said j (Err offset) s = absurd s

pub undone_said : (j : Journal) (r : Result JournalText ℕ) → SaysText j r → length j.steps.items - j.done ≡ undone_in r
undone_said j (Ok text) s = ap (λ n. n - j.done) (sym (length-map j.steps.items (λ v. map splice_of v.items))) ∙ ap (λ m. length m.steps - m.done) s
undone_said j (Err offset) s = absurd s

-- a line once more, and the times that it is still to be written
pub once_more : (line old new goal : List ℕ) (n m : ℕ) → n ≡ suc m → new ≡ old ++ line → old ++ times line n ≡ goal → new ++ times line m ≡ goal
once_more line old new goal n m e w h =
    ap (λ t. t ++ times line m) w ∙ (append_assoc old line (times line m) ∙ (ap (λ k. old ++ times line k) (sym e) ∙ h))
