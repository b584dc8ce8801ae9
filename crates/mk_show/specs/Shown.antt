-- Runs that show what a message is: its sections, and the content of one of them (own).
use Rattle.std.specs.Prelude.{◌≡◌, ◌⊎◌, ◌++◌, ℕ, Bool, true, false, Option, List, [], ◌∷◌, Result, Ok, Err, codes}
use Rattle.std.specs.Io.KnownBytes.{Appends, Consumes, Keeps}
use Rattle.mk_line.specs.Ascii.{line_feed}
use Rattle.mk_tree.specs.Documents.{tree}
use Rattle.mk_tree.specs.Sections.{Placed, section_at}
use Rattle.mk_view.specs.declared.extracting.ExtractError.{ExtractError}
use Rattle.mk_view.specs.declared.extracting.ExtractError.TheVariants as refused
use Rattle.mk_mailbox.specs.Devices.{AppendsFront}
use Rattle.mk_view.specs.Listing.{listing, path_text}
use Rattle.mk_view.specs.Extracts.{IsExtract, IsExtractRefused}
use Rattle.mk_show.specs.declared.answers.Answer.{Answer}
use Rattle.mk_transfer.specs.declared.status.Status.{Status}
use Rattle.mk_transfer.specs.declared.status.Status.TheVariants.{Well, Refused, Usage, Fault, Memory}
use Rattle.mk_transfer.specs.declared.status.Cause.{Cause}
use Rattle.mk_transfer.specs.Said.{Run, shown}
use Rattle.mk_transfer.specs.RunClauses.{Held, IsDone, IsGivenUp, Reason, WritesFronts, status_of}

-- an answer in memory as a run
abbrev pub run_of_answer : Answer → Run
run_of_answer a = shown a.output.items a.errors.items

-- the listing of a message
abbrev pub IsListed : List ℕ → Run → Type 0
IsListed message run = run ≡ shown (listing (tree message)) []

-- how a reason against an extraction is written
abbrev pub extract_name : ExtractError → List ℕ
extract_name refused.NoSuchSection = codes "NoSuchSection"
extract_name refused.BadBase64 = codes "BadBase64"
extract_name refused.UnknownEncoding = codes "UnknownEncoding"
extract_name refused.Memory = codes "Memory"

-- memory was wanting
abbrev pub is_wanting : ExtractError → Bool
is_wanting refused.NoSuchSection = false
is_wanting refused.BadBase64 = false
is_wanting refused.UnknownEncoding = false
is_wanting refused.Memory = true

-- the line that reports why a content isn't given
abbrev pub extract_line : List ℕ → ExtractError → List ℕ
extract_line path error = path_text path ++ (codes ": " ++ (extract_name error ++ line_feed ∷ []))

-- the content goes out
pub record IsGiven (place : Option Placed) (run : Run) : Type 0 where
  pub bytes : List ℕ
  pub content : IsExtract place bytes
  pub run_is : run ≡ shown bytes []

-- the reason why it isn't given goes to the errors
pub record IsReported (path : List ℕ) (place : Option Placed) (run : Run) : Type 0 where
  pub error : ExtractError
  pub reason : IsExtractRefused place error
  pub known : is_wanting error ≡ false
  pub run_is : run ≡ shown [] (extract_line path error)

-- the content of the section at a path of a message, or the reason
abbrev pub IsTaken : List ℕ → List ℕ → Run → Type 0
IsTaken path message run = IsGiven (section_at path (tree message)) run ⊎ IsReported path (section_at path (tree message)) run

-- the run was given up, and of what is shown nothing went out
pub record IsSilent (why : Reason) (status : Status) (before after : Held) : Type 0 where
  pub cause : Cause
  pub status_is : status_of cause ≡ status
  pub output : Keeps before.output after.output
  pub between : Option (List ℕ)
  pub errors : Keeps before.errors between
  pub line : why cause between after.errors

-- what a run leaves that ended by itself and shows what is defined
abbrev pub EndsShown : (Run → Type 0) → Status → Held → Held → Type 0
EndsShown R Well before after = (run : Run) × R run × IsDone Well run before after
EndsShown R Refused before after = (run : Run) × R run × IsDone Refused run before after
EndsShown R Usage before after = ⊥
EndsShown R Fault before after = ⊥
EndsShown R Memory before after = ⊥

-- what a run leaves that shows what is defined; one that was given up left nothing, or fronts of that
abbrev pub Shows : Reason → (Run → Type 0) → Status → Held → Held → Type 0
Shows why R Well before after = EndsShown R Well before after
Shows why R Refused before after = EndsShown R Refused before after
Shows why R Usage before after = ⊥
Shows why R Fault before after = IsSilent why Fault before after ⊎ ((run : Run) × R run × IsGivenUp why Fault run before after)
Shows why R Memory before after = IsSilent why Memory before after ⊎ ((run : Run) × R run × IsGivenUp why Memory run before after)

-- the same for the bytes that the run read
abbrev pub LeavesShown : Reason → (List ℕ → Run → Type 0) → Status → Held → Held → Type 0
LeavesShown why R status before after = (message : List ℕ) × Consumes before.input after.input message × Shows why (R message) status before after

-- nothing went out
pub record WritesNothing (before after : Held) : Type 0 where
  pub output : Keeps before.output after.output
  pub errors : Keeps before.errors after.errors

-- what a run leaves that shows what is defined, where it may be given up
abbrev pub ShowsSoFar : (Run → Type 0) → Result Status Cause → Held → Held → Type 0
ShowsSoFar R (Ok status) before after = EndsShown R status before after
ShowsSoFar R (Err cause) before after = WritesNothing before after ⊎ ((run : Run) × R run × WritesFronts cause run before after)

-- the same for the bytes that the run read
abbrev pub LeavesShownSoFar : (List ℕ → Run → Type 0) → Result Status Cause → Held → Held → Type 0
LeavesShownSoFar R result before after = (message : List ℕ) × Consumes before.input after.input message × ShowsSoFar (R message) result before after

-- a run went out whole
abbrev pub WritesRun : Status → Run → Option (List ℕ) → Option (List ℕ) → Option (List ℕ) → Option (List ℕ) → Type 0
WritesRun status run out out_after err err_after = (run.status ≡ status) × Appends out out_after run.output × Appends err err_after run.errors

-- what writing a run leaves that ends with this status
abbrev pub EndsWritten : Status → Run → Option (List ℕ) → Option (List ℕ) → Option (List ℕ) → Option (List ℕ) → Type 0
EndsWritten Well = WritesRun Well
EndsWritten Refused = WritesRun Refused
EndsWritten Usage = λ _ _ _ _ _. ⊥
EndsWritten Fault = λ _ _ _ _ _. ⊥
EndsWritten Memory = λ _ _ _ _ _. ⊥

-- what writing a run leaves: all of it, or fronts of the output and of the errors
abbrev pub Writes : Result Status Cause → Run → Option (List ℕ) → Option (List ℕ) → Option (List ℕ) → Option (List ℕ) → Type 0
Writes (Ok status) = EndsWritten status
Writes (Err cause) = λ run out out_after err err_after. AppendsFront out out_after run.output × AppendsFront err err_after run.errors
