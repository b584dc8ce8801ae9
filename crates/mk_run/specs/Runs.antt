-- What a run of a script on a message is (own).
use Rattle.std.specs.Result.{result_unwrap_or}
use Rattle.std.specs.Prelude.{if◌then◌else◌, ℕ, List, [], ◌∷◌, ◌++◌, Result, Ok, Err, length}
use Rattle.mk_line.specs.Lines.{is_nil}
use Rattle.mk_decide.specs.Edits.{Undo, Redo, Refusal}
use Rattle.mk_edit.specs.History.{History}
use Rattle.mk_edit.specs.Histories.{text_now, step}
use Rattle.mk_edit.specs.Saving.{JournalRefusal}
use Rattle.mk_transfer.specs.declared.status.Status.{Status}
use Rattle.mk_transfer.specs.declared.status.Status.TheVariants.{Well, Refused, Usage}
use Rattle.mk_transfer.specs.Said.{Run}
use Rattle.mk_report.specs.Reports.{error_line}
use Rattle.mk_script.specs.ScriptSteps.{ScriptStep, Makes, Groups, TakesBack, MakesAgain, script_of}
use Rattle.mk_expand.specs.Pieces.{Pieces}
use Rattle.mk_mail.specs.Rounds.{PlainRound}
use Rattle.mk_run.specs.Faults.{fault_line, syntax_line}
use Rattle.mk_run.specs.Journaling.{Journaling, begun, journal_line, left_journal}
use Rattle.mk_run.specs.RoundSteps.{round_lines, rounds_step}
use Rattle.mk_run.specs.WordSteps.{StepRefusal, EditRefused, WordRefused, words_step}

-- an order of the line of a number
abbrev pub ordered_at : ℕ → Result History Refusal → Result History StepRefusal
ordered_at number (Ok h) = Ok h
ordered_at number (Err reason) = Err (EditRefused number [] reason)

-- what a step makes of a history, or the reason that refuses it
abbrev pub outcome_of : Pieces → ScriptStep → History → Result History StepRefusal
outcome_of pieces (Makes number word) h = words_step pieces ((number, word) ∷ []) h
outcome_of pieces (Groups words) h = words_step pieces words h
outcome_of pieces (TakesBack number) h = ordered_at number (step Undo h)
outcome_of pieces (MakesAgain number) h = ordered_at number (step Redo h)

-- the line that reports why a step is refused
abbrev pub refusal_line : StepRefusal → List ℕ
refusal_line (EditRefused number path reason) = error_line number path reason
refusal_line (WordRefused number fault) = fault_line number fault

-- what is reported: nothing, where there was no reason
abbrev pub report_of : Result History StepRefusal → List ℕ
report_of (Ok h) = []
report_of (Err r) = refusal_line r

-- what is reported of a step
abbrev pub reported : Pieces → ScriptStep → History → List ℕ
reported pieces s h = report_of (outcome_of pieces s h)

-- the history after steps that are done in turn
abbrev pub history_after : Pieces → List ScriptStep → History → History
history_after pieces [] h = h
history_after pieces (s ∷ ss) h = history_after pieces ss (result_unwrap_or (outcome_of pieces s h) h)

-- the lines that report the refusals among steps that are done in turn
abbrev pub errors_of : Pieces → List ScriptStep → History → List ℕ
errors_of pieces [] h = []
errors_of pieces (s ∷ ss) h = reported pieces s h ++ errors_of pieces ss (result_unwrap_or (outcome_of pieces s h) h)

-- what a run does on the history that it begins with: the steps of a script, or rounds of letters at a section
pub data Doing : Type 0 where
  DoesSteps : (pieces : Pieces) (steps : List ScriptStep) → Doing
  DoesRounds : (path : List ℕ) (rounds : List PlainRound) → Doing

-- the history that it leaves
abbrev pub left_by : Doing → History → History
left_by (DoesSteps pieces steps) h = history_after pieces steps h
left_by (DoesRounds path rounds) h = result_unwrap_or (rounds_step path rounds h) h

-- the lines that report what is refused
abbrev pub reports_by : Doing → History → List ℕ
reports_by (DoesSteps pieces steps) h = errors_of pieces steps h
reports_by (DoesRounds path rounds) h = round_lines path (rounds_step path rounds h)

-- a run, and the journal that it leaves
pub record ScriptRun : Type 0 where
  pub run : Run
  pub journal : List ℕ

-- it is done on a history, and the text that is left is the output
abbrev pub run_from : Doing → Journaling → History → ScriptRun
run_from doing journaling h =
    let errors = reports_by doing h in
    let last = left_by doing h in
    let run : Run = record { output = text_now last; errors = errors; status = if is_nil errors then Well else Refused } in
    record { run = run; journal = left_journal journaling last }

-- a run that does nothing but report one line
abbrev pub run_none : List ℕ → Status → ScriptRun
run_none line status = record { run = record { output = []; errors = line; status = status }; journal = [] }

-- it is done on the history that the run begins with; a refused journal is reported
abbrev pub run_begun : Doing → Journaling → Result History JournalRefusal → ScriptRun
run_begun doing journaling (Ok h) = run_from doing journaling h
run_begun doing journaling (Err reason) = run_none (journal_line reason) Refused

-- the run on a message, with its journal
abbrev pub run_on : Doing → Journaling → List ℕ → ScriptRun
run_on doing journaling message = run_begun doing journaling (begun journaling message)

-- a script with a fault does nothing
abbrev pub run_steps : Pieces → Journaling → List ℕ → Result (List ScriptStep) ℕ → ScriptRun
run_steps pieces journaling message (Err number) = run_none (syntax_line number) Usage
run_steps pieces journaling message (Ok steps) = run_on (DoesSteps pieces steps) journaling message

-- the run of a script, with its pieces and its journal, on a message
abbrev pub run_of : Pieces → Journaling → List ℕ → List ℕ → ScriptRun
run_of pieces journaling message script = run_steps pieces journaling message (script_of (length pieces.texts) script)

-- the run of rounds of letters at a section of a message, as one step, with its journal
abbrev pub run_of_rounds : List ℕ → List PlainRound → Journaling → List ℕ → ScriptRun
run_of_rounds path rounds journaling message = run_on (DoesRounds path rounds) journaling message
