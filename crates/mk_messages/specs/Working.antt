-- What becomes of the messages of a mailbox, each worked on in turn (own).
use Rattle.std.specs.Prelude.{◌≡◌, ◌⊎◌, ◌+◌, ◌++◌, ℕ, suc, List, [], ◌∷◌, Option, Result, Ok, Err, length}
use Rattle.mk_mailbox.specs.Devices.{AppendsFront}
use Rattle.mk_transfer.specs.declared.status.Cause.{Cause}
use Rattle.mk_transfer.specs.declared.status.Status.{Status}
use Rattle.mk_transfer.specs.declared.status.Status.TheVariants.{Well, Refused, Usage, Fault, Memory}
use Rattle.mk_transfer.specs.RunClauses.{Held, IsDone}
use Rattle.mk_transfer.specs.Said.{Said, said_after, shown, silence}
use Rattle.mk_messages.specs.declared.work.Answer.{Answer}

-- what an answer in memory says
abbrev pub answer_said : Answer → Said
answer_said a = record { output = a.output.text.items; errors = a.errors.text.items }

-- what work on a message of a number says, and what becomes of the device that it is done on
abbrev pub Effect : Type 0 → Type 1
Effect D = ℕ → List ℕ → Said → D → D → Type 0

-- what becomes of messages in turn, where the first has this number
abbrev pub WorksOn : (D : Type 0) → Effect D → ℕ → List (List ℕ) → Said → D → D → Type 0
WorksOn D Does number [] said old new = (said ≡ silence) × (new ≡ old)
WorksOn D Does number (m ∷ ms) said old new =
    (first : Said) × (more : Said) × (between : D) × Does number m first old between × WorksOn D Does (suc number) ms more between new
    × (said ≡ said_after first more)

-- the work on the first of some messages was stopped, or wasn't begun; that on the others wasn't begun
abbrev pub StopsWork : (D : Type 0) → Effect D → ℕ → List (List ℕ) → Said → D → D → Type 0
StopsWork D Stops number [] said old new = (said ≡ silence) × (new ≡ old)
StopsWork D Stops number (m ∷ ms) said old new = ((said ≡ silence) × (new ≡ old)) ⊎ Stops number m said old new

-- what the output and the errors hold, and the device that work is done on
pub record WorkState (D : Type 0) : Type 0 where
  pub output : Option (List ℕ)
  pub errors : Option (List ℕ)
  pub device : D

-- the same as a record
abbrev pub work_state : (D : Type 0) → Option (List ℕ) → Option (List ℕ) → D → WorkState D
work_state D output errors device = record { output = output; errors = errors; device = device }

-- the first of some messages were worked on, and the work on the next one was stopped; a front of what is said of them went out
pub record WorksOnSome (D : Type 0) (Does Stops : Effect D) (number : ℕ) (ms : List (List ℕ)) (before after : WorkState D) : Type 0 where
  pub done : List (List ℕ)
  pub rest : List (List ℕ)
  pub parts : ms ≡ done ++ rest
  pub said : Said
  pub more : Said
  pub between : D
  pub works : WorksOn D Does number done said before.device between
  pub stops : StopsWork D Stops (number + length done) rest more between after.device
  pub output : AppendsFront before.output after.output (said.output ++ more.output)
  pub errors : AppendsFront before.errors after.errors (said.errors ++ more.errors)

-- the run ended by itself: all messages were worked on, from number 1 on
pub record IsWorkedOff (D : Type 0) (Does : Effect D) (status : Status) (ms : List (List ℕ)) (before after : Held) (old new : D) : Type 0 where
  pub said : Said
  pub works : WorksOn D Does 1 ms said old new
  pub run : IsDone status (shown said.output said.errors) before after

-- what a run leaves that ended by itself, by its status
abbrev pub EndsWork : (D : Type 0) → Effect D → Status → List (List ℕ) → Held → Held → D → D → Type 0
EndsWork D Does Well = IsWorkedOff D Does Well
EndsWork D Does Refused = IsWorkedOff D Does Refused
EndsWork D Does Usage = λ _ _ _ _ _. ⊥
EndsWork D Does Fault = λ _ _ _ _ _. ⊥
EndsWork D Does Memory = λ _ _ _ _ _. ⊥

-- what a run leaves, where it may be given up
abbrev pub LeavesWork : (D : Type 0) → Effect D → Effect D → Result Status Cause → List (List ℕ) → Held → Held → D → D → Type 0
LeavesWork D Does Stops (Ok status) ms before after old new = EndsWork D Does status ms before after old new
LeavesWork D Does Stops (Err cause) ms before after old new =
    WorksOnSome D Does Stops 1 ms (work_state D before.output before.errors old) (work_state D after.output after.errors new)
