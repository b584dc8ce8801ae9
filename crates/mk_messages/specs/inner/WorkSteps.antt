-- Messages that were worked on one after another; for private contracts.
use Rattle.std.specs.Prelude.{◌≡◌, ◌⊎◌, ℕ, Bool, not, List}
use Rattle.std.specs.Io.KnownBytes.{Appends}
use Rattle.mk_line.specs.Lines.{is_nil}
use Rattle.mk_mailbox.specs.Devices.{Rose}
use Rattle.mk_transfer.specs.Said.{Said}
use Rattle.mk_messages.specs.Working.{Effect, WorkState, WorksOn}

-- messages were worked on from a number on, and all that is said of them went out
pub record WorksOnAll (D : Type 0) (Does : Effect D) (number : ℕ) (ms : List (List ℕ)) (refused : Bool) (before after : WorkState D) : Type 0 where
  pub said : Said
  pub works : WorksOn D Does number ms said before.device after.device
  pub output : Appends before.output after.output said.output
  pub errors : Appends before.errors after.errors said.errors
  pub refused_is : refused ≡ not (is_nil said.errors)

-- the failures of the devices of work: the output, the errors, and the one that it is done on
pub record WorkFailures : Type 0 where
  pub output : ℕ
  pub errors : ℕ
  pub device : ℕ

-- the same as a record
abbrev pub work_failures : ℕ → ℕ → ℕ → WorkFailures
work_failures output errors device = record { output = output; errors = errors; device = device }

-- none of them failed
pub record WorkWentWell (before after : WorkFailures) : Type 0 where
  pub output : after.output ≡ before.output
  pub errors : after.errors ≡ before.errors
  pub device : after.device ≡ before.device

-- one of them failed
abbrev pub WorkFailed : WorkFailures → WorkFailures → Type 0
WorkFailed before after = Rose before.output after.output ⊎ Rose before.errors after.errors ⊎ Rose before.device after.device
