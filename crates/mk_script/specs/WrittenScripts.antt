-- How the steps of a script are written (own).
use Rattle.std.specs.Prelude.{◌≡◌, ◌+◌, ℕ, List, [], ◌∷◌, ◌++◌, length, map}
use Rattle.std.specs.List.{flat_map}
use Rattle.mk_line.specs.declared.cutting.Ending.TheVariants.{Lf}
use Rattle.mk_line.specs.Lines.{TextLine, text_line}
use Rattle.mk_script.specs.Script.{ScriptWord, ScriptLine, Edits, Undoes, Redoes, Begins, Ends}
use Rattle.mk_script.specs.ScriptSteps.{ScriptStep, Makes, Groups, TakesBack, MakesAgain}
use Rattle.mk_script.specs.Written.{IsWord, written_line}

-- what the lines of a step say: an edit is one line, and edits of a group stand between `begin` and `end`
abbrev pub step_lines : ScriptStep → List ScriptLine
step_lines (Makes number word) = Edits word ∷ []
step_lines (Groups words) = Begins ∷ (map (λ w. Edits w.1) words ++ Ends ∷ [])
step_lines (TakesBack number) = Undoes ∷ []
step_lines (MakesAgain number) = Redoes ∷ []

-- words that may be written where there are so many pieces, with the numbers of their lines from here on
abbrev pub AreWords : (count number : ℕ) → List (ℕ × ScriptWord) → Type 0
AreWords count number [] = Unit {0}
AreWords count number (w ∷ ws) = (w.0 ≡ number) × IsWord count w.1 × AreWords count (number + 1) ws

-- a step that may be written from a line on, with the numbers of its lines
abbrev pub IsWrittenStep : (count number : ℕ) → ScriptStep → Type 0
IsWrittenStep count number (Makes line word) = (line ≡ number) × IsWord count word
IsWrittenStep count number (Groups words) = AreWords count (number + 1) words
IsWrittenStep count number (TakesBack line) = line ≡ number
IsWrittenStep count number (MakesAgain line) = line ≡ number

-- steps that may be written one after another from a line on
abbrev pub AreSteps : (count number : ℕ) → List ScriptStep → Type 0
AreSteps count number [] = Unit {0}
AreSteps count number (step ∷ steps) = IsWrittenStep count number step × AreSteps count (number + length (step_lines step)) steps

-- steps are written as their lines, each with a line feed
abbrev pub written_steps : List ScriptStep → List TextLine
written_steps steps = map (λ line. text_line (written_line line) Lf) (flat_map step_lines steps)
