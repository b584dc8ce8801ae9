-- Each message of a mailbox, unpacked into one folder (own).
use Rattle.std.specs.Prelude.{◌≡◌, ◌⊎◌, [], ℕ, List, Option, Some, Result, Ok}
use Rattle.mk_transfer.specs.declared.status.Cause.{Cause}
use Rattle.mk_transfer.specs.declared.status.Status.{Status}
use Rattle.mk_transfer.specs.RunClauses.{held}
use Rattle.mk_transfer.specs.Said.{Said, silence}
use Rattle.mk_show.specs.Chosen.{Asked}
use Rattle.mk_show.specs.Folders.{Files}
use Rattle.mk_show.specs.UnpackClauses.{LeavesAskedSoFar}
use Rattle.mk_each.specs.Labels.{labelled, message_label, number_label}

-- what is said of a message of a number where unpacking it alone says this
abbrev pub said_labelled : ℕ → Said → Said
said_labelled number raw = record { output = labelled (number_label number) raw.output; errors = labelled (message_label number) raw.errors }

-- what unpacking a message alone says and leaves in a folder, with devices in memory
pub record IsUnpackedAlone (asked : Asked) (result : Result Status Cause) (message : List ℕ) (raw : Said) (old new : Option Files) : Type 0 where
  pub rest : List ℕ
  pub leaves : LeavesAskedSoFar asked result (held (Some message) (Some []) (Some [])) (held (Some rest) (Some raw.output) (Some raw.errors)) old new

-- a message was unpacked, and that is said with its number
pub record IsUnpackedInTurn (asked : Asked) (number : ℕ) (message : List ℕ) (said : Said) (old new : Option Files) : Type 0 where
  pub status : Status
  pub raw : Said
  pub alone : IsUnpackedAlone asked (Ok status) message raw old new
  pub said_is : said ≡ said_labelled number raw

-- unpacking a message was begun, and what was done is said, or nothing is
pub record IsUnpackedInPart (asked : Asked) (number : ℕ) (message : List ℕ) (said : Said) (old new : Option Files) : Type 0 where
  pub result : Result Status Cause
  pub raw : Said
  pub alone : IsUnpackedAlone asked result message raw old new
  pub said_is : (said ≡ said_labelled number raw) ⊎ (said ≡ silence)

-- unpacking a message was stopped, or not begun
abbrev pub IsStoppedInTurn : Asked → ℕ → List ℕ → Said → Option Files → Option Files → Type 0
IsStoppedInTurn asked number message said old new = ((said ≡ silence) × (new ≡ old)) ⊎ IsUnpackedInPart asked number message said old new
