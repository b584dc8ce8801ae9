-- What a run of a script leaves in its devices, the journal's among them.
use Rattle.std.specs.Prelude.{◌≡◌, ◌≢◌, ◌⊎◌, ℕ, List, [], Option, Result, Ok, Err}
use Rattle.std.specs.Io.KnownBytes.{Appends, Consumes, Keeps}
use Rattle.mk_line.specs.Meters.{ticked}
use Rattle.mk_mailbox.specs.Devices.{AppendsFront, Rose}
use Rattle.mk_transfer.specs.declared.status.Status.{Status}
use Rattle.mk_transfer.specs.declared.status.Status.TheVariants.{Well, Refused, Usage, Fault, Memory}
use Rattle.mk_transfer.specs.declared.status.Cause.{Cause}
use Rattle.mk_edit.specs.History.{History}
use Rattle.mk_edit.specs.Saving.{JournalRefusal}
use Rattle.mk_expand.specs.Pieces.{Pieces}
use Rattle.mk_run.specs.Journaling.{Journaling, begun}
use Rattle.mk_run.specs.Runs.{ScriptRun, run_of, run_steps}
use Rattle.mk_transfer.specs.RunClauses.{Held, Counts, Leaves, LeavesSoFar, Reason, WriteFailed}
use Rattle.mk_script.specs.ScriptSteps.{ScriptStep}

-- a front of the journal went out, and a byte of it only once the whole output had gone out
pub record WritesJournalFront (script : ScriptRun) (before after : Held) (kept left : Option (List ℕ)) : Type 0 where
  pub front : AppendsFront kept left script.journal
  pub later : Keeps kept left ⊎ Appends before.output after.output script.run.output

-- the whole journal went out, and its device was finished once after it, exactly where the journal has a byte
pub record WritesJournal (script : ScriptRun) (kept left : Option (List ℕ)) (was finished : ℕ) : Type 0 where
  pub whole : Appends kept left script.journal
  pub stands : script.journal ≢ [] → finished ≡ ticked was
  pub untouched : script.journal ≡ [] → finished ≡ was

-- what a run leaves in the journal's device, by its status: the whole journal, unless it was given up
abbrev pub LeavesJournal : Status → ScriptRun → Held → Held → Option (List ℕ) → Option (List ℕ) → ℕ → ℕ → Type 0
LeavesJournal Well script before after kept left was finished = WritesJournal script kept left was finished
LeavesJournal Refused script before after kept left was finished = WritesJournal script kept left was finished
LeavesJournal Usage script before after kept left was finished = WritesJournal script kept left was finished
LeavesJournal Fault script before after kept left was finished = WritesJournalFront script before after kept left
LeavesJournal Memory script before after kept left was finished = WritesJournalFront script before after kept left

-- the same, where the run may be given up
abbrev pub LeavesJournalSoFar : Result Status Cause → ScriptRun → Held → Held → Option (List ℕ) → Option (List ℕ) → ℕ → ℕ → Type 0
LeavesJournalSoFar (Ok status) script before after kept left was finished = LeavesJournal status script before after kept left was finished
LeavesJournalSoFar (Err cause) script before after kept left was finished = WritesJournalFront script before after kept left

-- what a run leaves is what is defined for the bytes that it read
abbrev pub LeavesBy : (List ℕ → ScriptRun) → Result Status Cause → Held → Held → Option (List ℕ) → Option (List ℕ) → ℕ → ℕ → Type 0
LeavesBy run result before after kept left was finished =
    (message : List ℕ) × Consumes before.input after.input message
    × LeavesSoFar result (run message).run before after
    × LeavesJournalSoFar result (run message) before after kept left was finished

-- the same for a run of steps
abbrev pub LeavesSteps : Result Status Cause → Pieces → Journaling → Result (List ScriptStep) ℕ → Held → Held → Option (List ℕ) → Option (List ℕ) → ℕ → ℕ → Type 0
LeavesSteps result pieces journaling steps before after kept left was finished =
    LeavesBy (λ message. run_steps pieces journaling message steps) result before after kept left was finished

-- what a run of a script leaves is what is defined for the bytes that it read
abbrev pub LeavesRun : Reason → Status → Pieces → Journaling → List ℕ → Held → Held → Option (List ℕ) → Option (List ℕ) → ℕ → ℕ → Type 0
LeavesRun why status pieces journaling script before after kept left was finished =
    (message : List ℕ) × Consumes before.input after.input message
    × Leaves why status (run_of pieces journaling message script).run before after
    × LeavesJournal status (run_of pieces journaling message script) before after kept left was finished

-- how many times two devices were finished: the output's and the journal's
pub record Finished : Type 0 where
  pub output : ℕ
  pub journal : ℕ

-- the same as a record
abbrev pub finished : ℕ → ℕ → Finished
finished output journal = record { output = output; journal = journal }

-- the whole journal went out and the output was finished once; then the journal's device failed, and isn't finished
pub record FailsLast (journal : List ℕ) (kept left : Option (List ℕ)) (failed fails : ℕ) (was is : Finished) : Type 0 where
  pub some : journal ≢ []
  pub whole : Appends kept left journal
  pub fault : Rose failed fails
  pub output : is.output ≡ ticked was.output
  pub journal_is : is.journal ≡ was.journal

-- no device was finished, unless the journal's failed last
abbrev pub StaysOpen : List ℕ → Option (List ℕ) → Option (List ℕ) → ℕ → ℕ → Finished → Finished → Type 0
StaysOpen journal kept left failed fails was is = (is ≡ was) ⊎ FailsLast journal kept left failed fails was is

-- the same for the journal of the run of the bytes that were read
abbrev pub LeavesOpen : (List ℕ → ScriptRun) → Held → Held → Option (List ℕ) → Option (List ℕ) → ℕ → ℕ → Finished → Finished → Type 0
LeavesOpen run before after kept left failed fails was is =
    (message : List ℕ) × Consumes before.input after.input message × StaysOpen (run message).journal kept left failed fails was is

-- the output, the errors or the journal's device failed
abbrev pub SinkFailed : Counts → Counts → ℕ → ℕ → Type 0
SinkFailed before after kept left = WriteFailed before after ⊎ Rose kept left

-- the output is finished once, where the run has a history to begin with
abbrev pub FinishesWith : Result History JournalRefusal → ℕ → ℕ → Type 0
FinishesWith (Ok h) was finished = finished ≡ ticked was
FinishesWith (Err reason) was finished = finished ≡ was

-- the output is finished once where the message goes out: not for a script with a fault, nor for a refused journal
abbrev pub Prints : Status → Journaling → Held → Held → ℕ → ℕ → Type 0
Prints Well journaling before after was finished = finished ≡ ticked was
Prints Refused journaling before after was finished =
    (message : List ℕ) × Consumes before.input after.input message × FinishesWith (begun journaling message) was finished
Prints Usage journaling before after was finished = finished ≡ was
Prints Fault journaling before after was finished = Unit {0}
Prints Memory journaling before after was finished = Unit {0}
