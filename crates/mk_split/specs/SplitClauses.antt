-- What a run that splits a mailbox leaves in its devices.
use Rattle.std.specs.Prelude.{◌≡◌, ◌⊎◌, ◌+◌, ◌++◌, ℕ, Option, Result, Ok, Err, List, [], ◌∷◌, length}
use Rattle.std.specs.Io.KnownBytes.{Consumes}
use Rattle.mk_mailbox.specs.Devices.{AppendsFront}
use Rattle.mk_mailbox.specs.Pieces.{mailbox_pieces}
use Rattle.mk_transfer.specs.declared.status.Cause.{Cause}
use Rattle.mk_transfer.specs.declared.status.Status.{Status}
use Rattle.mk_transfer.specs.declared.status.Status.TheVariants.{Well, Refused, Usage, Fault, Memory}
use Rattle.mk_transfer.specs.RunClauses.{Held, IsDone}
use Rattle.mk_transfer.specs.Said.{Said, shown}
use Rattle.mk_show.specs.Folders.{Files, GetsFront}
use Rattle.mk_show.specs.UnpackClauses.{Written, written}
use Rattle.mk_split.specs.declared.splitting.SplitOptions.{SplitOptions}
use Rattle.mk_split.specs.Splitting.{Splits, file_text}
use Rattle.mk_split.specs.Templates.{template_name}

-- of a message at most a front was put
abbrev pub PutsPart : SplitOptions → ℕ → List ℕ → Option Files → Option Files → Type 0
PutsPart o number message old new = (new ≡ old) ⊎ GetsFront old new (template_name o.names.now number) (file_text o message)

-- of the first of some messages at most a front was put, and of the others nothing
abbrev pub PutsNext : SplitOptions → ℕ → List (List ℕ) → Option Files → Option Files → Type 0
PutsNext o number [] old new = new ≡ old
PutsNext o number (m ∷ ms) old new = PutsPart o number m old new

-- a front of the messages was put, a front of what is said of them went out, and of the next message at most a front was put
pub record SplitSome (o : SplitOptions) (number : ℕ) (ms : List (List ℕ)) (before after : Written) : Type 0 where
  pub done : List (List ℕ)
  pub rest : List (List ℕ)
  pub parts : ms ≡ done ++ rest
  pub said : Said
  pub between : Option Files
  pub splits : Splits o number done said before.files between
  pub next : PutsNext o (number + length done) rest between after.files
  pub output : AppendsFront before.output after.output said.output
  pub errors : AppendsFront before.errors after.errors said.errors

-- the run ended by itself: all messages were put, from number 1 on
pub record IsSplitUp (o : SplitOptions) (status : Status) (ms : List (List ℕ)) (before after : Held) (old new : Option Files) : Type 0 where
  pub said : Said
  pub splits : Splits o 1 ms said old new
  pub run : IsDone status (shown said.output said.errors) before after

-- what a run leaves that ended by itself, by its status
abbrev pub EndsSplit : SplitOptions → Status → List (List ℕ) → Held → Held → Option Files → Option Files → Type 0
EndsSplit o Well ms before after old new = IsSplitUp o Well ms before after old new
EndsSplit o Refused ms before after old new = IsSplitUp o Refused ms before after old new
EndsSplit o Usage ms before after old new = ⊥
EndsSplit o Fault ms before after old new = ⊥
EndsSplit o Memory ms before after old new = ⊥

-- what a run leaves, where it may be given up
abbrev pub SplitsSoFar : SplitOptions → Result Status Cause → List (List ℕ) → Held → Held → Option Files → Option Files → Type 0
SplitsSoFar o (Ok status) ms before after old new = EndsSplit o status ms before after old new
SplitsSoFar o (Err cause) ms before after old new = SplitSome o 1 ms (written before.output before.errors old) (written after.output after.errors new)

-- the same for the mailbox that the run read
abbrev pub LeavesSplit : SplitOptions → Result Status Cause → Held → Held → Option Files → Option Files → Type 0
LeavesSplit o result before after old new =
    (text : List ℕ) × Consumes before.input after.input text × SplitsSoFar o result (mailbox_pieces o.from_lines text) before after old new
