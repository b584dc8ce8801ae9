-- What the steps on a session leave in the sinks.
use Rattle.std.specs.Prelude.{◌≡◌, ◌⊎◌, ℕ, List, Option, Result, Ok, Err}
use Rattle.std.specs.Io.KnownBytes.{Appends, Keeps}
use Rattle.mk_mailbox.specs.Devices.{AppendsFront}
use Rattle.mk_transfer.specs.declared.status.Status.{Status}
use Rattle.mk_transfer.specs.declared.status.Cause.{Cause}
use Rattle.mk_transfer.specs.declared.status.Cause.TheVariants.{Read}
use Rattle.mk_run.specs.JournalRuns.{WritesJournal}
use Rattle.mk_run.specs.Runs.{ScriptRun}

-- what the output, the errors and the journal's device hold
pub record Sunk : Type 0 where
  pub output : Option (List ℕ)
  pub errors : Option (List ℕ)
  pub journal : Option (List ℕ)

-- the contents of the sinks together
abbrev pub sunk : Option (List ℕ) → Option (List ℕ) → Option (List ℕ) → Sunk
sunk output errors journal = record { output = output; errors = errors; journal = journal }

-- all went out, and the run ends as defined
pub record WritesWhole (status : Status) (script : ScriptRun) (before after : Sunk) (was finished : ℕ) : Type 0 where
  pub status_is : status ≡ script.run.status
  pub output : Appends before.output after.output script.run.output
  pub errors : Appends before.errors after.errors script.run.errors
  pub journal : WritesJournal script before.journal after.journal was finished

-- fronts went out, and of the journal nothing before the whole output
pub record WritesPart (cause : Cause) (script : ScriptRun) (before after : Sunk) (was finished : ℕ) : Type 0 where
  pub unread : cause ≡ Read → ⊥
  pub output : AppendsFront before.output after.output script.run.output
  pub errors : AppendsFront before.errors after.errors script.run.errors
  pub journal : AppendsFront before.journal after.journal script.journal
  pub later : Keeps before.journal after.journal ⊎ Appends before.output after.output script.run.output

-- what the steps leave, and whether they were given up
abbrev pub LeavesSession : Result Status Cause → ScriptRun → Sunk → Sunk → ℕ → ℕ → Type 0
LeavesSession (Ok status) = WritesWhole status
LeavesSession (Err cause) = WritesPart cause
