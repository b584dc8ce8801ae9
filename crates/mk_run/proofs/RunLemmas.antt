-- What the engine's exits leave.
use Rattle.std.proofs.Common.{◌≡◌, ◌≤◌, ◌⊎◌, ℕ, Bool, true, false, not, if◌then◌else◌, List, Option, Some, Result, Ok, Err, IfOk, IfErr, OnErr, OnOk, refl, inl, inr, subst, sym}
use Rattle.std.proofs.lemmas.Bool.{cases_Bool}
use Rattle.std.specs.Io.KnownBytes.{Appends, Consumes, IsAtEnd, Keeps}
use Rattle.mk_line.specs.Lines.{is_nil}
use Rattle.mk_line.specs.Meters.{ticked}
use Rattle.mk_edit.specs.History.{History}
use Rattle.mk_edit.specs.declared.errors.LoadError.{LoadError}
use Rattle.mk_edit.specs.declared.errors.LoadError.TheVariants.{JournalSyntax as SyntaxIn, JournalOther as OtherIn, JournalMismatch as MismatchIn, Memory as MemoryIn}
use Rattle.mk_edit.specs.Saving.{JournalRefusal, JournalSyntax, JournalOther, JournalMismatch}
use Rattle.mk_mailbox.specs.Devices.{AppendsFront, Rose}
use Rattle.mk_transfer.specs.declared.status.Status.{Status}
use Rattle.mk_transfer.specs.declared.status.Status.TheVariants.{Well, Refused}
use Rattle.mk_transfer.specs.declared.status.Cause.{Cause}
use Rattle.mk_transfer.specs.declared.status.Cause.TheVariants.{Read, Write, Memory}
use Rattle.mk_run.specs.Journaling.{Journaling, begun, named_by}
use Rattle.mk_run.specs.JournalRuns.{Finished, LeavesJournal, LeavesJournalSoFar, LeavesOpen, Prints, StaysOpen}
use Rattle.mk_run.specs.Runs.{Doing, ScriptRun, reports_by, run_from}
use Rattle.mk_transfer.specs.RunClauses.{Held, Counts, IsBlamedWith, LeavesSoFar, ends_itself, status_of}
use Rattle.mk_run.specs.inner.Keeping.{says_memory}
use Rattle.mk_run.specs.inner.Sessions.{LeavesSession, Sunk, sunk}

-- the status where no error line went out, and where one did
pub status_at : (errors : List ℕ) (refused : Bool) (status : Status) → refused ≡ not (is_nil errors) → status ≡ (if refused then Refused else Well)
    → status ≡ (if is_nil errors then Well else Refused)
status_at errors refused status r s = elim (cases_Bool (is_nil errors)) [
  | inl t ↦ rw t (let no_line : refused ≡ false = rw t at r in rw no_line at s)
  | inr f ↦ rw f (let line : refused ≡ true = rw f at r in rw line at s)
]

-- what the steps on a session left, in a run that read its whole input
pub Leaves-session : (result : Result Status Cause) (doing : Doing) (journaling : Journaling) (h : History) (before after : Held) (kept left : Option (List ℕ)) (was finished : ℕ)
    → IsAtEnd after.input
    → LeavesSession result (run_from doing journaling h) (sunk before.output before.errors kept) (sunk after.output after.errors left) was finished
    → LeavesSoFar result (run_from doing journaling h).run before after × LeavesJournalSoFar result (run_from doing journaling h) before after kept left was finished
Leaves-session (Ok status) doing journaling h before after kept left was finished end w = elim (cases_Bool (is_nil (reports_by doing h))) [
  | inl t ↦
      let well : status ≡ Well = rw t at w.status_is in
      rw well (record { status_is = rw t refl; written = record { output = w.output; errors = w.errors }; read = end }, w.journal)
  | inr f ↦
      let refusing : status ≡ Refused = rw f at w.status_is in
      rw refusing (record { status_is = rw f refl; written = record { output = w.output; errors = w.errors }; read = end }, w.journal)
]
Leaves-session (Err cause) doing journaling h before after kept left was finished end w =
    (record { output = w.output; errors = w.errors; silent = λ e. absurd (w.unread e) }, record { front = w.journal; later = w.later })

-- steps on a session that weren't given up end the run by itself
pub session_ended : (result : Result Status Cause) (doing : Doing) (journaling : Journaling) (h : History) (before after : Sunk) (was finished : ℕ)
    → LeavesSession result (run_from doing journaling h) before after was finished → IfOk result (λ status. ends_itself status ≡ true)
session_ended (Ok status) doing journaling h before after was finished w = elim (cases_Bool (is_nil (reports_by doing h))) [
  | inl t ↦
      let well : status ≡ Well = rw t at w.status_is in
      rw well refl
  | inr f ↦
      let refusing : status ≡ Refused = rw f at w.status_is in
      rw refusing refl
]
session_ended (Err cause) doing journaling h before after was finished w = tt

-- steps on a session don't read, so a sink is to blame where a device is, and none where memory ran out
pub session_blamed : (result : Result Status Cause) (script : ScriptRun) (before after : Sunk) (was finished : ℕ) (old new : Counts) (kept left : ℕ)
    → LeavesSession result script before after was finished → new.input ≡ old.input
    → IfErr result (λ cause. cause ≡ Write → Rose old.output new.output ⊎ (Rose old.errors new.errors ⊎ Rose kept left))
    → IfErr result (λ cause. cause ≡ Memory → (new.output ≡ old.output) × (new.errors ≡ old.errors) × (left ≡ kept))
    → old.errors ≤ new.errors
    → IfErr result (λ cause. IsBlamedWith cause old new kept left)
session_blamed (Ok status) script before after was finished old new kept left w well blamed steady counted = tt
session_blamed (Err Read) script before after was finished old new kept left w well blamed steady counted = absurd (w.unread refl)
session_blamed (Err Write) script before after was finished old new kept left w well blamed steady counted = record { failed = sinks_failed (blamed refl); input = well; errors = counted }
  where
    sinks_failed : Rose old.output new.output ⊎ (Rose old.errors new.errors ⊎ Rose kept left) → (Rose old.output new.output ⊎ Rose old.errors new.errors) ⊎ Rose kept left
    sinks_failed h = elim h [
      | inl a ↦ inl (inl a)
      | inr b ↦ elim b [
        | inl e ↦ inl (inr e)
        | inr j ↦ inr j
      ]
    ]
session_blamed (Err Memory) script before after was finished old new kept left w well blamed steady counted =
    let same = steady refl in (record { input = well; output = same.0; errors = same.1 }, same.2)

-- an error that doesn't speak of memory names a reason
pub named_reason : (error : LoadError) → says_memory error ≡ false → (reason : JournalRefusal) × (named_by error ≡ Some reason)
named_reason (SyntaxIn offset) e = (JournalSyntax offset, refl)
named_reason OtherIn e = (JournalOther, refl)
named_reason (MismatchIn entry) e = (JournalMismatch entry, refl)
named_reason MemoryIn e = absurd (cc)

-- what was left of the journal where a run is given up
pub LeavesJournal-given_up : (cause : Cause) (script : ScriptRun) (before after : Held) (kept left : Option (List ℕ)) (was finished : ℕ)
    → AppendsFront kept left script.journal → Keeps kept left ⊎ Appends before.output after.output script.run.output
    → LeavesJournal (status_of cause) script before after kept left was finished
LeavesJournal-given_up Read script before after kept left was finished front later = record { front = front; later = later }
LeavesJournal-given_up Write script before after kept left was finished front later = record { front = front; later = later }
LeavesJournal-given_up Memory script before after kept left was finished front later = record { front = front; later = later }

-- steps on a session that weren't given up finish the output
pub Prints-session : (result : Result Status Cause) (doing : Doing) (journaling : Journaling) (h : History) (was is : Sunk) (stood stands : ℕ)
    → LeavesSession result (run_from doing journaling h) was is stood stands
    → (message : List ℕ) (before after : Held) (was_finished finished : ℕ) → Consumes before.input after.input message → begun journaling message ≡ Ok h → OnOk result (finished ≡ ticked was_finished)
    → IfOk result (λ status. Prints status journaling before after was_finished finished)
Prints-session (Ok status) doing journaling h was is stood stands w message before after was_finished finished read b e = elim (cases_Bool (is_nil (reports_by doing h))) [
  | inl t ↦
      let well : status ≡ Well = rw t at w.status_is in
      rw well e
  | inr f ↦
      let refusing : status ≡ Refused = rw f at w.status_is in
      rw refusing (message, read, rw b e)
]
Prints-session (Err cause) doing journaling h was is stood stands w message before after was_finished finished read b e = tt

-- a run that is given up says nothing of the output's device
pub Prints-given_up : (cause : Cause) (journaling : Journaling) (before after : Held) (was_finished finished : ℕ) → Prints (status_of cause) journaling before after was_finished finished
Prints-given_up Read journaling before after was_finished finished = tt
Prints-given_up Write journaling before after was_finished finished = tt
Prints-given_up Memory journaling before after was_finished finished = tt

-- the devices that a run finished, by the message that it read
pub open-session : (result : Result Status Cause) (run : List ℕ → ScriptRun) (script : ScriptRun) (message : List ℕ) (before after : Held) (kept left : Option (List ℕ)) (failed fails : ℕ) (was is : Finished)
    → Consumes before.input after.input message → run message ≡ script → OnErr result (StaysOpen script.journal kept left failed fails was is)
    → OnErr result (LeavesOpen run before after kept left failed fails was is)
open-session (Ok status) run script message before after kept left failed fails was is read same stays = tt
open-session (Err cause) run script message before after kept left failed fails was is read same stays =
    (message, read, subst (λ (s : ScriptRun). StaysOpen s.journal kept left failed fails was is) (sym same) stays)
