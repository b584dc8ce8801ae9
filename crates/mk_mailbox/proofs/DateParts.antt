-- A date by its parts.
use Rattle.std.proofs.Common.{◌≡◌, ◌≤◌, ◌-◌, ◌&&◌, if◌then◌else◌, ℕ, Bool, true, false, List, ap, sym, ◌∙◌, drop, length, length-drop, take}
use Rattle.std.proofs.Math.Seq.{take-length}
use Rattle.std.proofs.lemmas.Bool.{le-ltb}
use Rattle.mk_mailbox.specs.Dates.{is_date, is_year}
use Rattle.mk_mailbox.specs.inner.Parts.{begins_with_moment}

-- all that follows a place
rest_is : (place : ℕ) (text : List ℕ) → take (length text - place) (drop place text) ≡ drop place text
rest_is place text = ap (λ n. take n (drop place text)) (sym (length-drop place text)) ∙ take-length (drop place text)

-- bytes that are long enough and begin with a moment are a date where the rest is a year
pub date_by_year : (text : List ℕ) (year : Bool) → 24 ≤ length text → begins_with_moment text ≡ true → year ≡ is_year (take (length text - 20) (drop 20 text)) → year ≡ is_date text
date_by_year text year l m e =
    (e ∙ ap is_year (rest_is 20 text))
    ∙ (sym (ap (λ t. t && is_year (drop 20 text)) m) ∙ sym (ap (λ t. if t then false else (begins_with_moment text && is_year (drop 20 text))) (le-ltb (length text) 24 l)))
