-- A head and the lines after it, apart.
use Rattle.mk_line.specs.Lines.{is_nil}
use Rattle.std.specs.Prelude.{◌≡◌, Bool, true, false, Option, None, Some, List, [], ◌∷◌, not}
use Rattle.mk_line.specs.Lines.{TextLine}
use Rattle.mk_head.specs.Split.{Head, belongs, is_empty}

-- each line belongs to a field; inside: a field stands before the first
abbrev pub IsRun : Bool → List TextLine → Type 0
IsRun inside [] = Unit {0}
IsRun inside (l ∷ ls) = (belongs inside l ≡ true) × IsRun true ls

-- the first line neither belongs to a field nor is empty
abbrev pub Stops : Bool → List TextLine → Type 0
Stops inside [] = Unit {0}
Stops inside (l ∷ ls) = (belongs inside l ≡ false) × (is_empty l ≡ false)

-- after a separator nothing is asked; without one the first line must stop the fields
abbrev pub Follows : Bool → Option TextLine → List TextLine → Type 0
Follows inside (Some l) ls = is_empty l ≡ true
Follows inside None ls = Stops inside ls

-- the head and the lines after it are apart
pub record IsSplit (h : Head) (ls : List TextLine) : Type 0 where
  pub run : IsRun false h.fields
  pub next : Follows (not (is_nil h.fields)) h.separator ls
