-- How the steps of a journal are listed (own).
use Rattle.std.specs.Prelude.{◌+◌, ◌++◌, nat_lt, ℕ, Bool, true, false, List, [], ◌∷◌, codes, decimal, length}
use Rattle.std.specs.List.{flat_map}
use Rattle.mk_line.specs.Ascii.{line_feed, space}
use Rattle.mk_splice.specs.Splices.{Splice}
use Rattle.mk_splice.specs.Journals.{Meaning}

-- whether a step is done, in a word
abbrev pub state_word : Bool → List ℕ
state_word true = codes "done"
state_word false = codes "undone"

-- a splice: how many bytes stood at a place, and how many took theirs
abbrev pub splice_words : Splice → List ℕ
splice_words s = codes "; " ++ (decimal (length s.old) ++ (codes " bytes at " ++ (decimal s.place ++ (codes " became " ++ decimal (length s.new)))))

-- a step: its number, whether it is done, and its splices
abbrev pub step_line : (number : ℕ) → (done : Bool) → List Splice → List ℕ
step_line number done step = decimal number ++ (space ∷ (state_word done ++ (flat_map splice_words step ++ line_feed ∷ [])))

-- the lines of steps that follow so many others, where so many of all are done
abbrev pub lines_of_steps : (others done : ℕ) → List (List Splice) → List ℕ
lines_of_steps others done [] = []
lines_of_steps others done (step ∷ steps) = step_line (others + 1) (nat_lt others done) step ++ lines_of_steps (others + 1) done steps

-- the lines of a journal's steps, numbered from 1
abbrev pub journal_lines : Meaning → List ℕ
journal_lines m = lines_of_steps 0 m.done m.steps
