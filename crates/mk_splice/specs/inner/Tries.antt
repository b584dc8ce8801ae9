-- What a try to make steps, or to take them back, says of the definitions.
use Rattle.std.specs.Prelude.{◌≡◌, if◌then◌else◌, ℕ, Bool, true, false, Option, None, Some, Result, Ok, Err, List}
use Rattle.std.specs.Option.{option_or}
use Rattle.std.specs.Result.{result_err}
use Rattle.mk_splice.specs.Splices.{Splice, back_one, forth_one}
use Rattle.mk_splice.specs.Misfits.{stands}
use Rattle.mk_splice.specs.declared.fitting.FitError.{FitError}
use Rattle.mk_splice.specs.declared.fitting.FitError.TheVariants.{Misfit, Memory}

-- a splice made where its old bytes stand, and taken back where its new bytes stand
abbrev pub one_made : Splice → List ℕ → Option (List ℕ)
one_made s text = if stands s.place s.old text then Some (forth_one s text) else None

abbrev pub one_taken_back : Splice → List ℕ → Option (List ℕ)
one_taken_back s text = if stands s.place s.new text then Some (back_one s text) else None

-- the number of the step that fails, of those taken back from the text, or else of those made from it
abbrev pub failed : Result (List ℕ) ℕ → Result (List ℕ) ℕ → Option ℕ
failed back forth = option_or (result_err back) (result_err forth)

-- a step was made or not
abbrev pub IsTried : Bool → List ℕ → Option (List ℕ) → Type 0
IsTried true after o = o ≡ Some after
IsTried false after o = o ≡ None

-- all steps were made
abbrev pub Succeeds : Result (List ℕ) ℕ → Type 0
Succeeds r = (text : List ℕ) × (r ≡ Ok text)

-- the step that failed is named
abbrev pub FailsWith : FitError → Result (List ℕ) ℕ → Type 0
FailsWith (Misfit n) r = r ≡ Err n
FailsWith Memory r = Unit {0}
