-- What a run leaves in its devices, and why one is given up.
use Rattle.std.specs.Prelude.{◌≡◌, ◌≤◌, ◌⊎◌, ℕ, Bool, true, false, List, ◌++◌, ◌∷◌, [], Option, Result, Ok, Err, codes}
use Rattle.std.specs.Io.KnownBytes.{Appends, IsAtEnd, Keeps}
use Rattle.mk_line.specs.Ascii.{line_feed}
use Rattle.mk_mailbox.specs.Devices.{AppendsFront, Rose, IsLong}
use Rattle.mk_transfer.specs.declared.status.Status.{Status}
use Rattle.mk_transfer.specs.declared.status.Status.TheVariants.{Well, Refused, Usage, Fault, Memory}
use Rattle.mk_transfer.specs.declared.status.Cause.{Cause}
use Rattle.mk_transfer.specs.declared.status.Cause.TheVariants.{Read, Write, Memory as NoMemory}
use Rattle.mk_transfer.specs.declared.transfer.Stop.{Stop}
use Rattle.mk_transfer.specs.declared.transfer.Stop.TheVariants.{Fault as Stopped, Memory as Wanting}
use Rattle.mk_transfer.specs.Said.{Run}

-- what the devices of a run tell: the bytes that the input has left, and those that the output and the errors hold
pub record Held : Type 0 where
  pub input : Option (List ℕ)
  pub output : Option (List ℕ)
  pub errors : Option (List ℕ)

-- the contents of the devices together
abbrev pub held : Option (List ℕ) → Option (List ℕ) → Option (List ℕ) → Held
held input output errors = record { input = input; output = output; errors = errors }

-- the counts of the devices of a run: the failures of each, and the reads of the input
pub record Counts : Type 0 where
  pub input : ℕ
  pub reads : ℕ
  pub output : ℕ
  pub errors : ℕ

-- the counts of the devices together
abbrev pub counts : ℕ → ℕ → ℕ → ℕ → Counts
counts input reads output errors = record { input = input; reads = reads; output = output; errors = errors }

-- no device failed
pub record SameFailures (before after : Counts) : Type 0 where
  pub input : after.input ≡ before.input
  pub output : after.output ≡ before.output
  pub errors : after.errors ≡ before.errors

-- the input failed to be read to its end
abbrev pub ReadFailed : Counts → Counts → Type 0
ReadFailed before after = Rose before.input after.input ⊎ IsLong before.reads after.reads

-- the output or the errors failed
abbrev pub WriteFailed : Counts → Counts → Type 0
WriteFailed before after = Rose before.output after.output ⊎ Rose before.errors after.errors

-- the input failed, and no sink did
pub record InputFailed (before after : Counts) : Type 0 where
  pub failed : ReadFailed before after
  pub output : after.output ≡ before.output
  pub errors : after.errors ≡ before.errors

-- a sink failed, as it is said, and the input didn't; no failure of the errors was forgotten
pub record SinkFailed (IsFailure : Type 0) (before after : Counts) : Type 0 where
  pub failed : IsFailure
  pub input : after.input ≡ before.input
  pub errors : before.errors ≤ after.errors

-- the bytes of the output and of the errors went out whole
pub record WritesAll (run : Run) (before after : Held) : Type 0 where
  pub output : Appends before.output after.output run.output
  pub errors : Appends before.errors after.errors run.errors

-- a front of the output and a front of the errors went out, and of the output nothing where reading failed
pub record WritesFronts (cause : Cause) (run : Run) (before after : Held) : Type 0 where
  pub output : AppendsFront before.output after.output run.output
  pub errors : AppendsFront before.errors after.errors run.errors
  pub silent : cause ≡ Read → Keeps before.output after.output

-- all of the bytes went to a sink that did not fail
pub record IsSent (bytes : List ℕ) (old new : Option (List ℕ)) (before after : ℕ) : Type 0 where
  pub whole : Appends old new bytes
  pub well : after ≡ before

-- a front of the bytes went to a sink, which failed where a fault is what stopped it
pub record IsStopped (stop : Stop) (bytes : List ℕ) (old new : Option (List ℕ)) (before after : ℕ) : Type 0 where
  pub front : AppendsFront old new bytes
  pub fault : stop ≡ Stopped → Rose before after
  pub steady : stop ≡ Wanting → after ≡ before
  pub counted : before ≤ after

-- bytes were sent to a sink, or a front of them, with the failures that it counts
abbrev pub Sends : {X : Type 0} → Result X Stop → List ℕ → Option (List ℕ) → Option (List ℕ) → ℕ → ℕ → Type 0
Sends (Ok x) = IsSent
Sends (Err stop) = IsStopped stop

-- the line that says why a run was given up
abbrev pub cause_line : Cause → List ℕ
cause_line Read = codes "mimetool: read fault" ++ line_feed ∷ []
cause_line Write = codes "mimetool: write fault" ++ line_feed ∷ []
cause_line NoMemory = codes "mimetool: memory" ++ line_feed ∷ []

-- the cause to give up where reading stopped
abbrev pub cause_of_reading : Stop → Cause
cause_of_reading Stopped = Read
cause_of_reading Wanting = NoMemory

-- the cause to give up where writing stopped
abbrev pub cause_of_writing : Stop → Cause
cause_of_writing Stopped = Write
cause_of_writing Wanting = NoMemory

-- the status of a run that was given up
abbrev pub status_of : Cause → Status
status_of Read = Fault
status_of Write = Fault
status_of NoMemory = Memory

-- the devices bear a cause out: the input alone failed, or a sink and not the input, or no device
abbrev pub IsBlamed : Cause → Counts → Counts → Type 0
IsBlamed Read before after = InputFailed before after
IsBlamed Write before after = SinkFailed (WriteFailed before after) before after
IsBlamed NoMemory before after = SameFailures before after

-- the same for a run that writes to one sink more, with the failures that this one counts
abbrev pub IsBlamedWith : Cause → Counts → Counts → ℕ → ℕ → Type 0
IsBlamedWith Read before after more left = InputFailed before after × (left ≡ more)
IsBlamedWith Write before after more left = SinkFailed (WriteFailed before after ⊎ Rose more left) before after
IsBlamedWith NoMemory before after more left = SameFailures before after × (left ≡ more)

-- a cause to give up, and what the errors hold before and after the line that says so
abbrev pub Reason : Type 1
Reason = Cause → Option (List ℕ) → Option (List ℕ) → Type 0

-- the devices bear the cause out, by the failures that the errors had counted before the line, which are those counted before the
-- run or more; and the line goes out whole, unless the errors fail then
pub record GivesUp (IsBorne : Cause → ℕ → Type 0) (counted failed : ℕ) (cause : Cause) (between left : Option (List ℕ)) : Type 0 where
  pub told : ℕ
  pub least : counted ≤ told
  pub most : told ≤ failed
  pub borne : IsBorne cause told
  pub front : AppendsFront between left (cause_line cause)
  pub whole : Appends between left (cause_line cause) ⊎ Rose told failed

-- the reason of a run, by the counts of its devices
abbrev pub reason : Counts → Counts → Reason
reason before after = GivesUp (λ cause told. IsBlamed cause before (record after { errors = told })) before.errors after.errors

-- the same with one device more
abbrev pub reason_with : Counts → Counts → ℕ → ℕ → Reason
reason_with before after more left = GivesUp (λ cause told. IsBlamedWith cause before (record after { errors = told }) more left) before.errors after.errors

-- a front of the output and of the errors went out, and then the line that says why the run was given up; where reading failed
-- nothing went to the output
pub record IsGivenUp (why : Reason) (status : Status) (run : Run) (before after : Held) : Type 0 where
  pub output : AppendsFront before.output after.output run.output
  pub cause : Cause
  pub status_is : status_of cause ≡ status
  pub between : Option (List ℕ)
  pub errors : AppendsFront before.errors between run.errors
  pub line : why cause between after.errors
  pub silent : cause ≡ Read → Keeps before.output after.output

-- the run ended by itself as defined, and the whole input was read
pub record IsDone (status : Status) (run : Run) (before after : Held) : Type 0 where
  pub status_is : run.status ≡ status
  pub written : WritesAll run before after
  pub read : IsAtEnd after.input

-- the run ended as defined before any of the input was read
pub record IsUnread (status : Status) (run : Run) (before after : Held) : Type 0 where
  pub status_is : run.status ≡ status
  pub written : WritesAll run before after
  pub read : Keeps before.input after.input

-- what a run leaves that ended by itself, by its status
abbrev pub Ends : Status → Run → Held → Held → Type 0
Ends Well run before after = IsDone Well run before after
Ends Refused run before after = IsDone Refused run before after
Ends Usage run before after = IsUnread Usage run before after
Ends Fault run before after = ⊥
Ends Memory run before after = ⊥

-- what a run leaves in its devices, by its status
abbrev pub Leaves : Reason → Status → Run → Held → Held → Type 0
Leaves why Well = IsDone Well
Leaves why Refused = IsDone Refused
Leaves why Usage = IsUnread Usage
Leaves why Fault = IsGivenUp why Fault
Leaves why Memory = IsGivenUp why Memory

-- a run that is given up left fronts; one that ended left what its status says
abbrev pub LeavesSoFar : Result Status Cause → Run → Held → Held → Type 0
LeavesSoFar (Ok status) = Ends status
LeavesSoFar (Err cause) = WritesFronts cause

-- a run ended by itself, and was not given up
abbrev pub ends_itself : Status → Bool
ends_itself Well = true
ends_itself Refused = true
ends_itself Usage = true
ends_itself Fault = false
ends_itself Memory = false
