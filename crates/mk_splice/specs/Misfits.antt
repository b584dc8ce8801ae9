-- The first step that doesn't fit a text (own).
use Rattle.std.specs.Prelude.{◌≡◌, ◌↔◌, ◌≤◌, ◌+◌, ◌&&◌, not, nat_lt, nat_eq, if◌then◌else◌, ℕ, suc, Bool, Option, None, Some, Result, Ok, Err, List, [], ◌∷◌, length, take, drop}
use Rattle.std.specs.List.{starts_with}
use Rattle.std.specs.Option.{ok_or, option_and_then, option_or}
use Rattle.std.specs.Result.{result_err}
use Rattle.mk_splice.specs.declared.fitting.FitError.{FitError}
use Rattle.mk_splice.specs.declared.fitting.FitError.TheVariants.{Misfit, Memory}
use Rattle.mk_splice.specs.Splices.{Splice, forth_one, back_one}
use Rattle.mk_splice.specs.Fits.{Fit}

-- whether bytes stand at a place
abbrev pub stands : ℕ → List ℕ → List ℕ → Bool
stands place bytes text = not (nat_lt (length text) place) && starts_with nat_eq (drop place text) bytes

-- a step made, where each splice finds its old bytes
abbrev pub step_made : List Splice → List ℕ → Option (List ℕ)
step_made [] text = Some text
step_made (s ∷ ss) text = option_and_then (step_made ss) (if stands s.place s.old text then Some (forth_one s text) else None)

-- a step taken back from its last splice to its first, where each finds its new bytes
abbrev pub step_taken_back : List Splice → List ℕ → Option (List ℕ)
step_taken_back [] text = Some text
step_taken_back (s ∷ ss) text = option_and_then (λ t. if stands s.place s.new t then Some (back_one s t) else None) (step_taken_back ss text)

-- what comes next, or the number that an earlier step failed with
abbrev pub unless_failed : (List ℕ → Result (List ℕ) ℕ) → Result (List ℕ) ℕ → Result (List ℕ) ℕ
unless_failed next (Ok text) = next text
unless_failed next (Err n) = Err n

-- steps made in turn, of which the first has a number; or the number of the first that can't be made
abbrev pub all_made : ℕ → List (List Splice) → List ℕ → Result (List ℕ) ℕ
all_made n [] text = Ok text
all_made n (s ∷ ss) text = unless_failed (all_made (suc n) ss) (ok_or (step_made s text) n)

-- steps taken back from the last to the first, which has a number; or the number of the first that can't be taken back
abbrev pub all_taken_back : ℕ → List (List Splice) → List ℕ → Result (List ℕ) ℕ
all_taken_back n [] text = Ok text
all_taken_back n (s ∷ ss) text = unless_failed (λ t. ok_or (step_taken_back s t) n) (all_taken_back (suc n) ss text)

-- the first step that doesn't fit a text, counted from 1: of the done ones, which are taken back from it, or else of the others,
-- which are made from it
abbrev pub misfit : List ℕ → List (List Splice) → ℕ → Option ℕ
misfit text ss done = option_or (result_err (all_taken_back 1 (take done ss) text)) (result_err (all_made (done + 1) (drop done ss) text))

-- an error says which step doesn't fit
abbrev pub Says : FitError → Option ℕ → Type 0
Says (Misfit n) o = o ≡ Some n
Says Memory o = Unit {0}

-- steps fit a text exactly where none is named that doesn't
abbrev pub FitsAreTold : Type 0
FitsAreTold = (text : List ℕ) (ss : List (List Splice)) (done : ℕ) → done ≤ length ss → (misfit text ss done ≡ None) ↔ Fit text ss done
