-- What a run that unpacks a message leaves in its devices.
use Rattle.std.specs.Prelude.{◌≡◌, ◌⊎◌, ◌++◌, if◌then◌else◌, ℕ, Bool, false, not, List, [], ◌∷◌, Option, None, Result, Ok, Err}
use Rattle.std.specs.Io.KnownBytes.{Appends, Consumes, Keeps}
use Rattle.mk_line.specs.Lines.{is_nil}
use Rattle.mk_tree.specs.Documents.{Document, tree}
use Rattle.mk_tree.specs.Sections.{section_at}
use Rattle.mk_mailbox.specs.Devices.{AppendsFront, Rose}
use Rattle.mk_view.specs.TextNames.{plain_storing}
use Rattle.mk_view.specs.FileNames.{Named}
use Rattle.mk_transfer.specs.declared.status.Status.{Status}
use Rattle.mk_transfer.specs.declared.status.Status.TheVariants.{Well, Refused, Usage, Fault, Memory}
use Rattle.mk_transfer.specs.declared.status.Cause.{Cause}
use Rattle.mk_transfer.specs.declared.status.Cause.TheVariants.{Read}
use Rattle.mk_show.specs.declared.placing.Clash.{Clash}
use Rattle.mk_show.specs.declared.placing.Clash.TheVariants.{Over, Numbered}
use Rattle.mk_show.specs.declared.unpacking.Manner.{Manner}
use Rattle.mk_show.specs.declared.unpacking.Report.TheVariants.{Nothing, Names}
use Rattle.mk_show.specs.Folders.{Files, Gets, IsFree}
use Rattle.mk_transfer.specs.RunClauses.{Held, IsDone, IsGivenUp, Reason}
use Rattle.mk_show.specs.Shown.{IsSilent}
use Rattle.mk_transfer.specs.Said.{shown, Said}
use Rattle.mk_show.specs.Unpacking.{IsPutOf, IsTarget, AllThere, Task, Unpacks, is_over, most_tries, task_clash, task_name, tasks_of}
use Rattle.mk_show.specs.Chosen.{Asked, AreAsked, missing_lines}

-- what the devices tell to which unpacking writes: the bytes that the output and the errors hold, and the files of the folder
pub record Written : Type 0 where
  pub output : Option (List ℕ)
  pub errors : Option (List ℕ)
  pub files : Option Files

-- the same as a record
abbrev pub written : Option (List ℕ) → Option (List ℕ) → Option Files → Written
written output errors files = record { output = output; errors = errors; files = files }

-- the failures that these devices count
pub record Failures : Type 0 where
  pub output : ℕ
  pub errors : ℕ
  pub folder : ℕ

-- the same as a record
abbrev pub failures : ℕ → ℕ → ℕ → Failures
failures output errors folder = record { output = output; errors = errors; folder = folder }

-- none of them failed
pub record NoneFailed (before after : Failures) : Type 0 where
  pub output : after.output ≡ before.output
  pub errors : after.errors ≡ before.errors
  pub folder : after.folder ≡ before.folder

-- one of them failed
abbrev pub SomeFailed : Failures → Failures → Type 0
SomeFailed before after = Rose before.output after.output ⊎ Rose before.errors after.errors ⊎ Rose before.folder after.folder

-- a text was put under a name, or under the first free one where files may not be written over
pub record PutsText (clash : Clash) (old new : Option Files) (name text target : List ℕ) : Type 0 where
  pub target_is : IsTarget clash old name target
  pub gets : Gets old new target text

-- no name was free, and nothing was put
pub record PutsNone (clash : Clash) (old new : Option Files) (name : List ℕ) : Type 0 where
  pub kept : is_over clash ≡ false
  pub there : AllThere (most_tries clash) old name
  pub same : new ≡ old

-- a front of a text was put so, under a name that no file had
pub record PutsFront (clash : Clash) (old new : Option Files) (name text : List ℕ) : Type 0 where
  pub target : List ℕ
  pub target_is : IsTarget clash old name target
  pub free : IsFree old target
  pub front : List ℕ
  pub rest : List ℕ
  pub text_is : text ≡ front ++ rest
  pub gets : Gets old new target front

-- a front of the bytes of a leaf was put under its name
pub record GetsSome (clash : Clash) (t : Document) (task : Task) (old new : Option Files) : Type 0 where
  pub bytes : List ℕ
  pub content : IsPutOf task.cut (section_at task.leaf.0 t) bytes
  pub put : PutsFront (task_clash task.cut clash) old new (task_name task.cut task.leaf.1) bytes

-- of the first of some leaves at most a front of its bytes was put, and of the others nothing
abbrev pub GetsNext : Clash → Document → List Task → Option Files → Option Files → Type 0
GetsNext clash t [] old new = new ≡ old
GetsNext clash t (task ∷ tasks) old new = (new ≡ old) ⊎ GetsSome clash t task old new

-- some lines and then leaves: the leaves were unpacked, and the lines and all that is said of the leaves went out
pub record UnpackedAllAfter (lines : List ℕ) (manner : Manner) (t : Document) (tasks : List Task) (refused : Bool) (before after : Written) : Type 0 where
  pub said : Said
  pub unpacks : Unpacks manner t tasks said before.files after.files
  pub output : Appends before.output after.output said.output
  pub errors : Appends before.errors after.errors (lines ++ said.errors)
  pub refused_is : refused ≡ not (is_nil (lines ++ said.errors))

-- leaves were unpacked, and all that is said of them went out
abbrev pub UnpackedAll : Manner → Document → List Task → Bool → Written → Written → Type 0
UnpackedAll = UnpackedAllAfter []

-- some lines and then leaves: a front of the leaves was unpacked, a front of the lines and of what is said of the leaves went out,
-- and of the next leaf at most a front was put
pub record UnpackedSomeAfter (lines : List ℕ) (manner : Manner) (t : Document) (tasks : List Task) (before after : Written) : Type 0 where
  pub done : List Task
  pub rest : List Task
  pub tasks_are : tasks ≡ done ++ rest
  pub said : Said
  pub between : Option Files
  pub unpacks : Unpacks manner t done said before.files between
  pub next : GetsNext manner.clash t rest between after.files
  pub output : AppendsFront before.output after.output said.output
  pub errors : AppendsFront before.errors after.errors (lines ++ said.errors)

-- a front of the leaves was unpacked, a front of what is said of them went out, and of the next leaf at most a front was put
abbrev pub UnpackedSome : Manner → Document → List Task → Written → Written → Type 0
UnpackedSome = UnpackedSomeAfter []

-- the manner of these two choices
abbrev pub manner_of : Bool → Bool → Manner
manner_of over silent = record { clash = if over then Over else Numbered; report = if silent then Nothing else Names }

-- what is asked for: all leaves
abbrev pub all_leaves : Manner → Bool → Asked
all_leaves manner texts = record { manner = manner; storing = plain_storing texts; prefix = false; sections = None }

-- the run ended by itself: the paths that lead to no section were reported, and all leaves that are asked for were unpacked
pub record IsUnpacked (asked : Asked) (t : Document) (status : Status) (before after : Held) (old new : Option Files) : Type 0 where
  pub leaves : List Named
  pub are_leaves : AreAsked asked t leaves
  pub said : Said
  pub unpacks : Unpacks asked.manner t (tasks_of asked.prefix leaves) said old new
  pub run : IsDone status (shown said.output (missing_lines t asked.sections ++ said.errors)) before after

-- the run was given up: a front of the leaves was unpacked, a front of the reports and of what is said of the leaves went out, and
-- of the next leaf at most a front was put
pub record IsBrokenOff (why : Reason) (asked : Asked) (t : Document) (status : Status) (before after : Held) (old new : Option Files) : Type 0 where
  pub leaves : List Named
  pub are_leaves : AreAsked asked t leaves
  pub done : List Task
  pub rest : List Task
  pub tasks_are : tasks_of asked.prefix leaves ≡ done ++ rest
  pub said : Said
  pub between : Option Files
  pub unpacks : Unpacks asked.manner t done said old between
  pub next : GetsNext asked.manner.clash t rest between new
  pub run : IsGivenUp why status (shown said.output (missing_lines t asked.sections ++ said.errors)) before after

-- the run was given up before any leaf was unpacked
abbrev pub IsUnbegun : Reason → Status → Held → Held → Option Files → Option Files → Type 0
IsUnbegun why status before after old new = IsSilent why status before after × (new ≡ old)

-- what a run leaves that ended by itself
abbrev pub EndsStored : Asked → Document → Status → Held → Held → Option Files → Option Files → Type 0
EndsStored asked t Well before after old new = IsUnpacked asked t Well before after old new
EndsStored asked t Refused before after old new = IsUnpacked asked t Refused before after old new
EndsStored asked t Usage before after old new = ⊥
EndsStored asked t Fault before after old new = ⊥
EndsStored asked t Memory before after old new = ⊥

-- what a run leaves that unpacks a document, by its status
abbrev pub Stores : Reason → Asked → Document → Status → Held → Held → Option Files → Option Files → Type 0
Stores why asked t Well before after old new = IsUnpacked asked t Well before after old new
Stores why asked t Refused before after old new = IsUnpacked asked t Refused before after old new
Stores why asked t Usage before after old new = ⊥
Stores why asked t Fault before after old new = IsUnbegun why Fault before after old new ⊎ IsBrokenOff why asked t Fault before after old new
Stores why asked t Memory before after old new = IsUnbegun why Memory before after old new ⊎ IsBrokenOff why asked t Memory before after old new

-- the same for the message that the run read, where all leaves are asked for
abbrev pub LeavesUnpacked : Reason → Manner → Bool → Status → Held → Held → Option Files → Option Files → Type 0
LeavesUnpacked why manner texts status before after old new =
    (message : List ℕ) × Consumes before.input after.input message × Stores why (all_leaves manner texts) (tree message) status before after old new

-- nothing was written before the run was given up
pub record IsUntouched (before after : Held) (old new : Option Files) : Type 0 where
  pub output : Keeps before.output after.output
  pub errors : Keeps before.errors after.errors
  pub files : new ≡ old

-- the run was given up after a front of the leaves, though not for a fault of reading
pub record IsHalted (asked : Asked) (t : Document) (cause : Cause) (before after : Held) (old new : Option Files) : Type 0 where
  pub leaves : List Named
  pub are_leaves : AreAsked asked t leaves
  pub some : UnpackedSomeAfter (missing_lines t asked.sections) asked.manner t (tasks_of asked.prefix leaves) (written before.output before.errors old) (written after.output after.errors new)
  pub writing : cause ≡ Read → ⊥

-- what a run leaves that unpacks a document, where it may be given up
abbrev pub StoresSoFar : Asked → Document → Result Status Cause → Held → Held → Option Files → Option Files → Type 0
StoresSoFar asked t (Ok status) before after old new = EndsStored asked t status before after old new
StoresSoFar asked t (Err cause) before after old new = IsUntouched before after old new ⊎ IsHalted asked t cause before after old new

-- the same for the message that the run read
abbrev pub LeavesAskedSoFar : Asked → Result Status Cause → Held → Held → Option Files → Option Files → Type 0
LeavesAskedSoFar asked result before after old new =
    (message : List ℕ) × Consumes before.input after.input message × StoresSoFar asked (tree message) result before after old new
