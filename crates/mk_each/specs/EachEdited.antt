-- Each message of a mailbox, edited by a script (own).
use Rattle.std.specs.Prelude.{◌++◌, ◌∷◌, [], if◌then◌else◌, ℕ, suc, List, Result, codes, drop, length}
use Rattle.mk_line.specs.Ascii.{line_feed}
use Rattle.mk_line.specs.Lines.{ends_open}
use Rattle.mk_mailbox.specs.declared.from_lines.FromLines.{FromLines}
use Rattle.mk_mailbox.specs.Pieces.{is_left_alone}
use Rattle.mk_mailbox.specs.Places.{takes_place}
use Rattle.mk_script.specs.ScriptSteps.{ScriptStep}
use Rattle.mk_expand.specs.Pieces.{Pieces}
use Rattle.mk_transfer.specs.Said.{Run, Said}
use Rattle.mk_messages.specs.TakenOut.{without_separator}
use Rattle.mk_run.specs.Journaling.{Without}
use Rattle.mk_run.specs.Runs.{run_steps}
use Rattle.mk_each.specs.Labels.{message_label, said_of_run}

-- the run of a script on a message alone
abbrev pub edited_run : Pieces → Result (List ScriptStep) ℕ → List ℕ → Run
edited_run pieces steps message = (run_steps pieces Without message steps).run

-- the line that reports a message that would be cut otherwise
abbrev pub recut_line : ℕ → List ℕ
recut_line number = message_label number ++ (codes "Recut" ++ line_feed ∷ [])

-- what stands of a message from the empty line on that ends it in a mailbox
abbrev pub message_separator : List ℕ → List ℕ
message_separator message = drop (length (without_separator message)) message

-- a text with the empty line after it that ends a message in a mailbox; an open last line ends as that one does
abbrev pub separated : List ℕ → List ℕ → List ℕ
separated text separator = (if ends_open text then text ++ separator else text) ++ separator

-- what is said of a message that was edited so: the result, with the line that ends it in the mailbox, where that takes its place;
-- else the message as it came, and a line that says so
abbrev pub said_in_place : FromLines → ℕ → List ℕ → Said → Said
said_in_place way number message said =
    let left = separated said.output (message_separator message) in
    if takes_place way message left then record { output = left; errors = said.errors } else record { output = message; errors = said.errors ++ recut_line number }

-- what is said of a message of a number; one of empty lines alone that stands before the first is left as it is
abbrev pub said_edited : Pieces → Result (List ScriptStep) ℕ → FromLines → ℕ → List ℕ → Said
said_edited pieces steps way number message =
    if is_left_alone way message then record { output = message; errors = [] } else said_in_place way number message (said_of_run number (edited_run pieces steps (without_separator message)))

-- what stands in the place of messages that were edited in turn, where the first has this number
abbrev pub edited_from : Pieces → Result (List ScriptStep) ℕ → FromLines → ℕ → List (List ℕ) → List (List ℕ)
edited_from pieces steps way number [] = []
edited_from pieces steps way number (m ∷ ms) = (said_edited pieces steps way number m).output ∷ edited_from pieces steps way (suc number) ms
