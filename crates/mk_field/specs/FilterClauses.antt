-- What a run that filters leaves in its devices.
use Rattle.std.specs.Prelude.{◌≡◌, ◌⊎◌, ◌++◌, if◌then◌else◌, ℕ, Bool, true, false, not, List, Option, None, Some, Result, Ok, Err}
use Rattle.std.specs.Io.KnownBytes.{Appends, Consumes, IsAtEnd, Keeps}
use Rattle.mk_line.specs.Lines.{is_nil}
use Rattle.mk_decide.specs.declared.errors.EditError.{EditError}
use Rattle.mk_decide.specs.Answers.{refusal_of}
use Rattle.mk_tree.specs.Documents.{tree}
use Rattle.mk_decide.specs.Edits.{PlainEdit, Recut}
use Rattle.mk_edit.specs.Groups.{together}
use Rattle.mk_edit.specs.Histories.{first_text, grouped_by, text_now}
use Rattle.mk_edit.specs.History.{History}
use Rattle.mk_mailbox.specs.Devices.{AppendsFront}
use Rattle.mk_mailbox.specs.Mailboxes.{IsKnownWhole}
use Rattle.mk_mailbox.specs.declared.places.Place.{Place}
use Rattle.mk_mailbox.specs.Pieces.{mailbox_pieces}
use Rattle.mk_mailbox.specs.Places.{fits_place}
use Rattle.mk_mail.specs.Rounds.{Made, PlainRound, made_text, round_edits}
use Rattle.std.specs.Result.{result_unwrap_or}
use Rattle.mk_transfer.specs.declared.status.Status.{Status}
use Rattle.mk_transfer.specs.declared.status.Status.TheVariants.{Well, Refused, Usage, Fault, Memory}
use Rattle.mk_transfer.specs.declared.status.Cause.{Cause}
use Rattle.mk_transfer.specs.declared.status.Cause.TheVariants.{Read}
use Rattle.mk_field.specs.Filtering.{PlainFilter, field_run, messages_of, said_from}
use Rattle.mk_transfer.specs.RunClauses.{Held, IsDone, Reason, status_of}
use Rattle.mk_transfer.specs.Said.{Run, Said}

-- all messages that are known to be whole went out, and the lines of those that were refused: of the rest of what was read none is
pub record GivesKnown (f : PlainFilter) (text : List ℕ) (out out_after err err_after : Option (List ℕ)) : Type 0 where
  pub given : List (List ℕ)
  pub rest : List ℕ
  pub parts : mailbox_pieces f.from_lines text ≡ given ++ mailbox_pieces f.from_lines rest
  pub unknown : IsKnownWhole f.from_lines rest → ⊥
  pub output : Appends out out_after (said_from true f 1 given).output
  pub errors : Appends err err_after (said_from true f 1 given).errors

-- where messages go out one by one and reading fails, all that are known to be whole went out with their lines, unless so much was read
-- that reading was given up
abbrev pub known_by : PlainFilter → Bool → Type 0 → List ℕ → Option (List ℕ) → Option (List ℕ) → Option (List ℕ) → Option (List ℕ) → Cause → Type 0
known_by f each spent text out out_after err err_after cause = cause ≡ Read → each ≡ true → GivesKnown f text out out_after err err_after ⊎ spent

-- the run was given up: a front of the output and of the errors went out, and then the line that says why; where reading failed
-- nothing went to the output, unless the messages go out one by one
pub record IsCutShort (why : Reason) (IsKnown : Cause → Option (List ℕ) → Type 0) (each : Bool) (status : Status) (run : Run) (before after : Held) : Type 0 where
  pub output : AppendsFront before.output after.output run.output
  pub cause : Cause
  pub status_is : status_of cause ≡ status
  pub between : Option (List ℕ)
  pub errors : AppendsFront before.errors between run.errors
  pub line : why cause between after.errors
  pub silent : each ≡ false → cause ≡ Read → Keeps before.output after.output
  pub known : IsKnown cause between

-- what a run leaves that ended by itself
abbrev pub EndsFiltered : Status → Run → Held → Held → Type 0
EndsFiltered Well run before after = IsDone Well run before after
EndsFiltered Refused run before after = IsDone Refused run before after
EndsFiltered Usage run before after = ⊥
EndsFiltered Fault run before after = ⊥
EndsFiltered Memory run before after = ⊥

-- what a run leaves, by its status
abbrev pub Filters : Reason → (Cause → Option (List ℕ) → Type 0) → Bool → Status → Run → Held → Held → Type 0
Filters why IsKnown each Well run before after = IsDone Well run before after
Filters why IsKnown each Refused run before after = IsDone Refused run before after
Filters why IsKnown each Usage run before after = ⊥
Filters why IsKnown each Fault run before after = IsCutShort why IsKnown each Fault run before after
Filters why IsKnown each Memory run before after = IsCutShort why IsKnown each Memory run before after

-- what a run that filters leaves is what is defined for the bytes that it read
abbrev pub LeavesFiltered : Reason → Type 0 → PlainFilter → Bool → Status → Held → Held → Type 0
LeavesFiltered why spent f each status before after =
    (text : List ℕ) × Consumes before.input after.input text
    × Filters why (λ cause between. known_by f each spent text before.output after.output before.errors between cause) each status (field_run f each text) before after

-- what is said went out whole, and whether something is reported
pub record SaysAll (said : Said) (refused : Bool) (out out_after err err_after : Option (List ℕ)) : Type 0 where
  pub output : Appends out out_after said.output
  pub errors : Appends err err_after said.errors
  pub refused_is : refused ≡ not (is_nil said.errors)

-- fronts of what is said went out
pub record SaysSome (said : Said) (out out_after err err_after : Option (List ℕ)) : Type 0 where
  pub output : AppendsFront out out_after said.output
  pub errors : AppendsFront err err_after said.errors

-- the reason is that of the edit that was refused, where one was
abbrev pub IsReason : Option EditError → Made → Type 0
IsReason None (Ok made) = Unit {0}
IsReason None (Err reason) = ⊥
IsReason (Some e) (Ok made) = ⊥
IsReason (Some e) (Err reason) = refusal_of e ≡ Some reason

-- what edits answered and left of a history: a step more, or the reason, and all as before
abbrev pub AreEditsMade : List PlainEdit → Option EditError → History → History → Type 0
AreEditsMade es None old new = grouped_by old (together es (tree (text_now old))) ≡ Ok new
AreEditsMade es (Some e) old new = (new ≡ old) × IsReason (Some e) (made_text (together es (tree (text_now old))))

-- what the edits of a round at a path answered and left of it
abbrev pub IsRoundMade : List ℕ → PlainRound → Option EditError → History → History → Type 0
IsRoundMade path r refusal old new = AreEditsMade (round_edits path (text_now old) r) refusal old new

-- a text fits a place, where one is to be kept
abbrev pub fits : Option Place → List ℕ → Bool
fits None text = true
fits (Some p) text = fits_place p.from_lines p.begins p.ends text

-- what was made, where it fits a place
abbrev pub fitted : Option Place → Made → Made
fitted place (Ok made) = if fits place made then Ok made else Err Recut
fitted place (Err reason) = Err reason

-- the text that stands fits a place, or all is taken back
abbrev pub IsFitted : Option Place → Option EditError → History → History → Type 0
IsFitted place None old new = (new ≡ old) × (fits place (text_now old) ≡ true)
IsFitted place (Some e) old new = (refusal_of e ≡ Some Recut) × (fits place (text_now old) ≡ false) × (text_now new ≡ first_text old)

-- this text was left of a message, and this reason given where an edit was refused
pub record IsEdited (m : Made) (text : List ℕ) (refusal : Option EditError) (left : List ℕ) : Type 0 where
  pub left_is : left ≡ result_unwrap_or m text
  pub reason : IsReason refusal m

-- all messages were filtered up to the end of the input
pub record IsFiltered (said : Said) (refused : Bool) (before after : Held) : Type 0 where
  pub says : SaysAll said refused before.output after.output before.errors after.errors
  pub ended : IsAtEnd after.input

-- the messages were filtered up to a cause to give up
pub record IsBroken (IsKnown : Cause → Type 0) (each : Bool) (cause : Cause) (said : Said) (before after : Held) : Type 0 where
  pub says : SaysSome said before.output after.output before.errors after.errors
  pub silent : each ≡ false → cause ≡ Read → Keeps before.output after.output
  pub known : IsKnown cause

-- what filtering leaves, up to a cause to give up
abbrev pub FiltersSoFar : (Cause → Type 0) → Bool → Result Bool Cause → Said → Held → Held → Type 0
FiltersSoFar IsKnown each (Ok refused) said before after = IsFiltered said refused before after
FiltersSoFar IsKnown each (Err cause) said before after = IsBroken IsKnown each cause said before after

-- the same for the bytes that were read
abbrev pub LeavesSaid : Type 0 → PlainFilter → Bool → Result Bool Cause → Held → Held → Type 0
LeavesSaid spent f each result before after =
    (text : List ℕ) × Consumes before.input after.input text
    × FiltersSoFar (known_by f each spent text before.output after.output before.errors after.errors) each result (said_from each f 1 (messages_of f.from_lines each text)) before after

-- what a run that filters leaves, where it may be given up
abbrev pub LeavesFilteredSoFar : Type 0 → PlainFilter → Bool → Result Status Cause → Held → Held → Type 0
LeavesFilteredSoFar spent f each (Ok status) before after = (text : List ℕ) × Consumes before.input after.input text × EndsFiltered status (field_run f each text) before after
LeavesFilteredSoFar spent f each (Err cause) before after = LeavesSaid spent f each (Err cause) before after
