-- What is told of a message, and what of it went out or is gathered; for private contracts.
use Rattle.std.specs.Prelude.{◌≡◌, ◌⊎◌, ◌++◌, ℕ, Bool, true, not, List, [], Option, None, Some, Result, Ok, Err}
use Rattle.std.specs.Io.KnownBytes.{Appends, Consumes, IsAtEnd}
use Rattle.mk_line.specs.Lines.{is_nil}
use Rattle.mk_decide.specs.declared.errors.EditError.{EditError}
use Rattle.mk_decide.specs.Answers.{refusal_of}
use Rattle.mk_decide.specs.Edits.{Refusal}
use Rattle.mk_edit.specs.Histories.{text_now}
use Rattle.mk_mailbox.specs.Devices.{AppendsFront}
use Rattle.mk_mailbox.specs.Pieces.{mailbox_pieces}
use Rattle.mk_report.specs.Reports.{message_line_at}
use Rattle.mk_transfer.specs.declared.status.Cause.{Cause}
use Rattle.mk_transfer.specs.declared.status.Cause.TheVariants.{Read}
use Rattle.mk_transfer.specs.RunClauses.{Held}
use Rattle.mk_transfer.specs.Said.{Said}
use Rattle.mk_field.specs.declared.telling.Printed.{Printed}
use Rattle.mk_field.specs.declared.telling.Printed.TheVariants.{Given, Headed, Left}
use Rattle.mk_field.specs.declared.telling.Told.{Told}
use Rattle.mk_field.specs.FilterClauses.{GivesKnown}
use Rattle.mk_field.specs.Filtering.{PlainFilter, said_from}

-- the text that is printed of a message
abbrev pub printed_text : Printed → List ℕ
printed_text (Given text) = text.items
printed_text (Left history) = text_now history
printed_text (Headed text) = text

-- the line that names a refusal; none where no refusal is named
abbrev pub told_line : List ℕ → ℕ → Option Refusal → List ℕ
told_line path number None = []
told_line path number (Some refusal) = message_line_at path number refusal

-- what is reported of a message, by the reason where an edit at a path is refused
abbrev pub told_report : List ℕ → ℕ → Option EditError → List ℕ
told_report path number None = []
told_report path number (Some error) = told_line path number (refusal_of error)

-- what is told of a message of a number, as what is said
abbrev pub told_said : List ℕ → ℕ → Told → Said
told_said path number t = record { output = printed_text t.text; errors = told_report path number t.refusal }

-- text came after what was gathered: a front of both went out, and the rest is gathered
pub record Gathers (text old new : List ℕ) (out out_after : Option (List ℕ)) : Type 0 where
  pub went : List ℕ
  pub output : Appends out out_after went
  pub parts : old ++ text ≡ went ++ new

-- the same up to a failure: the end of both is lost
pub record GathersFront (text old new : List ℕ) (out out_after : Option (List ℕ)) : Type 0 where
  pub went : List ℕ
  pub lost : List ℕ
  pub output : Appends out out_after went
  pub parts : old ++ text ≡ (went ++ new) ++ lost

-- what is said came after what was gathered, and whether something is reported
pub record GathersAll (said : Said) (refused : Bool) (old new : List ℕ) (out out_after err err_after : Option (List ℕ)) : Type 0 where
  pub output : Gathers said.output old new out out_after
  pub errors : Appends err err_after said.errors
  pub refused_is : refused ≡ not (is_nil said.errors)

-- fronts of what is said came after what was gathered
pub record GathersSome (said : Said) (old new : List ℕ) (out out_after err err_after : Option (List ℕ)) : Type 0 where
  pub output : GathersFront said.output old new out out_after
  pub errors : AppendsFront err err_after said.errors

-- all messages were filtered up to the end of the input, and what is gathered of them is still to go out
pub record AreAllGathered (said : Said) (refused : Bool) (gathered : List ℕ) (before after : Held) : Type 0 where
  pub says : GathersAll said refused [] gathered before.output after.output before.errors after.errors
  pub ended : IsAtEnd after.input

-- the same up to a cause to give up
pub record IsCutOff (IsKnown : Cause → Type 0) (cause : Cause) (said : Said) (gathered : List ℕ) (before after : Held) : Type 0 where
  pub says : GathersSome said [] gathered before.output after.output before.errors after.errors
  pub known : IsKnown cause

-- what filtering leaves while what is gathered is still to go out
abbrev pub GathersSoFar : (Cause → Type 0) → Result Bool Cause → Said → List ℕ → Held → Held → Type 0
GathersSoFar IsKnown (Ok refused) said gathered before after = AreAllGathered said refused gathered before after
GathersSoFar IsKnown (Err cause) said gathered before after = IsCutOff IsKnown cause said gathered before after

-- where reading fails nothing is gathered, and all messages that are known to be whole went out with their lines, unless reading was
-- given up
abbrev pub known_gathered : PlainFilter → Type 0 → List ℕ → List ℕ → Option (List ℕ) → Option (List ℕ) → Option (List ℕ) → Option (List ℕ) → Cause → Type 0
known_gathered f spent text gathered out out_after err err_after cause = cause ≡ Read → ((gathered ≡ []) × GivesKnown f text out out_after err err_after) ⊎ spent

-- the same for the bytes that were read
abbrev pub LeavesGathered : Type 0 → PlainFilter → Result Bool Cause → List ℕ → Held → Held → Type 0
LeavesGathered spent f result gathered before after =
    (text : List ℕ) × Consumes before.input after.input text
    × GathersSoFar (known_gathered f spent text gathered before.output after.output before.errors after.errors) result (said_from true f 1 (mailbox_pieces f.from_lines text)) gathered before after
