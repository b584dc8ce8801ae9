-- Why a line of a script is invalid: the first thing that is wrong with it (own).
use Rattle.std.specs.Prelude.{◌==◌, ◌-◌, ◌&&◌, if◌then◌else◌, ℕ, Bool, true, false, List, [], ◌∷◌, Option, None, Some, Result, Ok, Err, codes, find, is_some, not}
use Rattle.std.specs.Option.{option_map, option_map_or}
use Rattle.std.specs.Result.{result_err}
use Rattle.std.specs.List.{list_any}
use Rattle.std.specs.Str.{bytes_eq}
use Rattle.mk_line.specs.Ascii.{space}
use Rattle.mk_line.specs.Lines.{TextLine, cut, is_nil}
use Rattle.mk_line.specs.Parting.{before, following}
use Rattle.mk_script.specs.declared.reasons.Argument.{Argument}
use Rattle.mk_script.specs.declared.reasons.Argument.TheVariants as takes
use Rattle.mk_script.specs.declared.reasons.LineFault.{LineFault}
use Rattle.mk_script.specs.declared.reasons.LineFault.TheVariants.{UnknownWord, Missing, Extra, Spaces, BadPath, BadNumber, NoSuchPiece, BadEncoding, BadFieldName, Grouped, BadBegin, NoGroup, NotEdit}
use Rattle.mk_script.specs.Paths.{number_of, path_of}
use Rattle.mk_script.specs.Script.{ScriptLine, Edits, Undoes, Redoes, Begins, Ends, line_of, past_charset}
use Rattle.mk_script.specs.ScriptSteps.{ScriptStep, script_as_one, script_of}
use Rattle.mk_script.specs.Targets.{count_of, is_field_name, is_file_name, is_name, parted_last}

-- the words of scripts, and what they take
abbrev pub words : List (List (List ℕ) × List Argument)
words =
    (codes "add" ∷ codes "top" ∷ codes "put" ∷ [], takes.Path ∷ takes.Text ∷ [])
    ∷ (codes "body" ∷ codes "replace" ∷ codes "content" ∷ codes "put-piece" ∷ codes "append" ∷ codes "append-text" ∷ [], takes.Path ∷ takes.Piece ∷ [])
    ∷ (codes "del" ∷ [], takes.Path ∷ takes.Name ∷ takes.Count ∷ [])
    ∷ (codes "ren" ∷ [], takes.Path ∷ takes.Name ∷ takes.Count ∷ takes.Name ∷ [])
    ∷ (codes "set" ∷ [], takes.Path ∷ takes.Name ∷ takes.Count ∷ takes.Text ∷ [])
    ∷ (codes "insert" ∷ [], takes.Path ∷ takes.Count ∷ takes.Piece ∷ [])
    ∷ (codes "remove" ∷ [], takes.Paths ∷ [])
    ∷ (codes "wrap" ∷ [], takes.Path ∷ takes.Name ∷ takes.Text ∷ [])
    ∷ (codes "encode" ∷ [], takes.Path ∷ takes.Encoding ∷ [])
    ∷ (codes "drop" ∷ [], takes.Path ∷ takes.FieldName ∷ [])
    ∷ (codes "attach" ∷ [], takes.Path ∷ takes.Name ∷ takes.NameAndPiece ∷ [])
    ∷ (codes "attach-text" ∷ [], takes.Path ∷ takes.Name ∷ takes.Piece ∷ [])
    ∷ (codes "undo" ∷ codes "redo" ∷ codes "begin" ∷ codes "end" ∷ [], [])
    ∷ []

-- what a word takes, where there is such a word
abbrev pub arguments_of : List ℕ → Option (List Argument)
arguments_of name = option_map (λ row. row.1) (find (λ row. list_any (bytes_eq name) row.0) words)

-- whether a text may stand for an argument that others follow
abbrev pub is_argument : Argument → List ℕ → Bool
is_argument takes.Path text = is_some (path_of text)
is_argument takes.Name text = is_name text
is_argument takes.FieldName text = is_field_name text
is_argument takes.Count text = is_some (count_of text)
is_argument takes.Paths text = true
is_argument takes.Piece text = true
is_argument takes.Encoding text = true
is_argument takes.Text text = true
is_argument takes.NameAndPiece text = true

-- what is wrong with a piece
abbrev pub piece_fault : List ℕ → LineFault
piece_fault text = if is_some (number_of text) then NoSuchPiece else BadNumber

-- what is wrong with the name of a file and a piece after the last space: no space stands at an end of either
abbrev pub named_piece_fault : List ℕ × List ℕ → LineFault
named_piece_fault p = if is_file_name p.0 && not (is_nil p.1) then piece_fault p.1 else Spaces

-- what is wrong with an argument; a name can only be empty or hold a space
abbrev pub fault_of : Argument → List ℕ → LineFault
fault_of takes.Path text = BadPath
fault_of takes.Paths text = BadPath
fault_of takes.Name text = Spaces
fault_of takes.FieldName text = BadFieldName
fault_of takes.Count text = BadNumber
fault_of takes.Piece text = piece_fault text
fault_of takes.Encoding text = BadEncoding
fault_of takes.Text text = Missing
fault_of takes.NameAndPiece text = option_map_or named_piece_fault (parted_last space text) Missing

-- whether an argument may hold spaces
abbrev pub holds_spaces : Argument → Bool
holds_spaces takes.Paths = true
holds_spaces takes.Text = true
holds_spaces takes.NameAndPiece = true
holds_spaces _ = false

-- what is wrong with the last argument, where the others are right
abbrev pub last_fault : Argument → List ℕ → LineFault
last_fault argument text =
    if is_nil (before space text) then Spaces
    else (if not (holds_spaces argument) && is_some (following space text) then Extra else fault_of argument text)

-- what is wrong with arguments, each but the last up to a space: the first that can't be one, or else the last; an empty one
-- stands where a space stands twice
abbrev pub arguments_fault : List Argument → List ℕ → LineFault
arguments_fault [] text = Extra
arguments_fault (argument ∷ []) text = last_fault argument text
arguments_fault (argument ∷ next ∷ others) text =
    if is_argument argument (before space text) then option_map_or (arguments_fault (next ∷ others)) (following space text) Missing
    else (if is_nil (before space text) then Spaces else fault_of argument (before space text))

-- what is wrong with what a word is given: `content` may be given a charset before a path and a piece
abbrev pub given_fault : List ℕ → List ℕ → LineFault
given_fault name rest =
    if is_nil name then Spaces
    else option_map_or (arguments_fault (takes.Name ∷ takes.Path ∷ takes.Piece ∷ [])) (if bytes_eq name (codes "content") then past_charset rest else None)
    (option_map_or (λ arguments. arguments_fault arguments rest) (arguments_of name) UnknownWord)

-- what is wrong with a line that says nothing; a word that takes something may be given nothing
abbrev pub word_fault : List ℕ → LineFault
word_fault line =
    option_map_or (given_fault (before space line)) (following space line)
    (if option_map_or is_nil (arguments_of line) true then UnknownWord else Missing)

-- what is wrong with the place of a line that says something; where all lines are one group, each has to be an edit
abbrev pub place_fault : Bool → ScriptLine → LineFault
place_fault true said = NotEdit
place_fault false (Edits word) = NotEdit
place_fault false Undoes = Grouped
place_fault false Redoes = Grouped
place_fault false Begins = BadBegin
place_fault false Ends = NoGroup

-- the line of a number, from 1 on
abbrev pub line_text : ℕ → List TextLine → List ℕ
line_text number [] = []
line_text number (line ∷ lines) = if number == 1 then line.content else line_text (number - 1) lines

-- the steps of a script, or of one that is a group as a whole
abbrev pub steps_of : Bool → ℕ → List ℕ → Result (List ScriptStep) ℕ
steps_of false count script = script_of count script
steps_of true count script = script_as_one count script

-- the first invalid line of a script that is given so many pieces, where there is one: its number, from 1 on, and what is wrong
-- with it
abbrev pub first_invalid : Bool → ℕ → List ℕ → Option (ℕ × LineFault)
first_invalid as_one count script =
    let line : ℕ → List ℕ = λ number. line_text number (cut script) in
    option_map (λ number. (number, option_map_or (place_fault as_one) (line_of count (line number)) (word_fault (line number)))) (result_err (steps_of as_one count script))
