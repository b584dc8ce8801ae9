-- The steps of a script: its lines, those between `begin` and `end` together, or all lines together; and its faults (own).
use Rattle.std.specs.Prelude.{◌||◌, ◌++◌, if◌then◌else◌, not, ℕ, Bool, true, false, List, [], ◌∷◌, Option, None, Some, Result, Ok, Err}
use Rattle.std.specs.Option.{option_map_or}
use Rattle.mk_script.specs.Script.{ScriptWord, ScriptLine, Edits, Undoes, Redoes, Begins, Ends, NumberedLine, lines_of}

-- a step: an edit, with the number of its line; edits as a group; or undoing and redoing
pub data ScriptStep : Type 0 where
  Makes : (number : ℕ) (word : ScriptWord) → ScriptStep
  Groups : (words : List (ℕ × ScriptWord)) → ScriptStep
  TakesBack : (number : ℕ) → ScriptStep
  MakesAgain : (number : ℕ) → ScriptStep

-- an `end` comes
abbrev pub has_end : List NumberedLine → Bool
has_end [] = false
has_end ((number, Some Ends) ∷ lines) = true
has_end (line ∷ lines) = has_end lines

-- whether a line is a fault, inside a group or outside, where an `end` comes after it or none: a line that says nothing
-- is one; inside, whatever is no edit and no `end`; outside, an `end`, and a `begin` whose `end` is missing
abbrev pub is_fault : (inside ended : Bool) → Option ScriptLine → Bool
is_fault inside ended None = true
is_fault inside ended (Some (Edits word)) = false
is_fault inside ended (Some Undoes) = inside
is_fault inside ended (Some Redoes) = inside
is_fault inside ended (Some Begins) = inside || not ended
is_fault inside ended (Some Ends) = not inside

-- whether the line after is inside a group
abbrev pub inside_after : Bool → Option ScriptLine → Bool
inside_after inside (Some Begins) = true
inside_after inside (Some Ends) = false
inside_after inside said = inside

-- the number of the first fault
abbrev pub first_fault : Bool → List NumberedLine → Option ℕ
first_fault inside [] = None
first_fault inside (line ∷ lines) =
    if is_fault inside (has_end lines) line.1 then Some line.0 else first_fault (inside_after inside line.1) lines

-- the steps that end with a line, where this group is open or none: an edit outside a group; the group at its `end`
abbrev pub steps_at : ℕ → Option ScriptLine → Option (List (ℕ × ScriptWord)) → List ScriptStep
steps_at number None group = []
steps_at number (Some (Edits word)) None = Makes number word ∷ []
steps_at number (Some (Edits word)) (Some words) = []
steps_at number (Some Undoes) group = TakesBack number ∷ []
steps_at number (Some Redoes) group = MakesAgain number ∷ []
steps_at number (Some Begins) group = []
steps_at number (Some Ends) None = []
steps_at number (Some Ends) (Some words) = Groups words ∷ []

-- the group that is open after a line
abbrev pub group_after : ℕ → Option ScriptLine → Option (List (ℕ × ScriptWord)) → Option (List (ℕ × ScriptWord))
group_after number None group = group
group_after number (Some (Edits word)) None = None
group_after number (Some (Edits word)) (Some words) = Some (words ++ (number, word) ∷ [])
group_after number (Some Undoes) group = group
group_after number (Some Redoes) group = group
group_after number (Some Begins) group = Some []
group_after number (Some Ends) group = None

-- the steps of lines
abbrev pub steps_from : Option (List (ℕ × ScriptWord)) → List NumberedLine → List ScriptStep
steps_from group [] = []
steps_from group (line ∷ lines) = steps_at line.0 line.1 group ++ steps_from (group_after line.0 line.1 group) lines

-- the steps of a script that is given so many pieces, or the number of its first fault
abbrev pub script_of : ℕ → List ℕ → Result (List ScriptStep) ℕ
script_of count script = option_map_or Err (first_fault false (lines_of count script)) (Ok (steps_from None (lines_of count script)))

-- the number of the first line that is no edit
abbrev pub first_other : List NumberedLine → Option ℕ
first_other [] = None
first_other ((number, Some (Edits word)) ∷ lines) = first_other lines
first_other (line ∷ lines) = Some line.0

-- the edits of lines, with their numbers
abbrev pub edits_in : List NumberedLine → List (ℕ × ScriptWord)
edits_in [] = []
edits_in ((number, Some (Edits word)) ∷ lines) = (number, word) ∷ edits_in lines
edits_in (line ∷ lines) = edits_in lines

-- a script all of which is one group (`edit --all`), or the number of its first fault
abbrev pub script_as_one : ℕ → List ℕ → Result (List ScriptStep) ℕ
script_as_one count script = option_map_or Err (first_other (lines_of count script)) (Ok (Groups (edits_in (lines_of count script)) ∷ []))
