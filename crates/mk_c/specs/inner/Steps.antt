-- What private functions promise to the calls of C.
use Rattle.std.specs.Prelude.{◌≡◌, ◌⊎◌, ℕ, Option, Result, Ok, Err}
use Rattle.std.specs.Result.{result_ok}
use Rattle.mk_decide.specs.declared.edits.Edit.{Edit as HeldEdit}
use Rattle.mk_decide.specs.Views.{edit_of}
use Rattle.mk_edit.specs.declared.errors.GroupError.{GroupError}
use Rattle.mk_edit.specs.declared.errors.GroupError.TheVariants as group
use Rattle.mk_c.specs.declared.status.Place.{Place}
use Rattle.mk_c.specs.declared.status.Reason.{Reason}
use Rattle.mk_c.specs.declared.status.Reason.TheVariants.{Memory, Edit}
use Rattle.mk_c.specs.Desks.{Desk}
use Rattle.mk_c.specs.Statuses.{status_and_place}
use Rattle.mk_c.specs.Calls.{Ending, PutsDown}

-- an edit that may not have been made is put down after the others, or memory ran out
abbrev pub PutsDownMade : {X : Type 0} → Result HeldEdit X → Ending → Desk → Desk → Type 0
PutsDownMade (Ok e) ending old new = PutsDown (edit_of e) ending old new
PutsDownMade (Err x) ending old new = (ending ≡ Err Memory) × (new ≡ old)

-- how a call ends that opens a handle with what was begun, where there is memory for it
abbrev pub OpensWith : Result Desk Reason → ℕ → Place → Option Desk → Type 0
OpensWith begun status place new = (ending : Result Desk Reason) × ((status, place) ≡ status_and_place ending) × (new ≡ result_ok ending) × ((ending ≡ begun) ⊎ (ending ≡ Err Memory))

-- the reason against a group
abbrev pub group_reason : GroupError → Reason
group_reason (group.Member index error) = Edit index error
group_reason group.Memory = Memory
