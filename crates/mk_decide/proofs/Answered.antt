-- What holds of a plan, where there is one.
use Rattle.std.proofs.Common.{◌≡◌, Bool, true, false, Option, None, Some, Result, Ok, Err, List, refl}
use Rattle.mk_tree.specs.Tree.{Entity}
use Rattle.mk_tree.specs.Places.{Frame}
use Rattle.mk_decide.specs.Edits.{Refusal}
use Rattle.mk_decide.specs.FieldEdits.{Found}
use Rattle.mk_decide.specs.Plans.{Plan, unless}
use Rattle.mk_decide.proofs.PlanNames.{with_field, with_place}

abbrev pub Holds : (Plan → Type 0) → Result Plan Refusal → Type 0
Holds P (Ok p) = P p
Holds P (Err e) = Unit {0}

pub unless_holds : (P : Plan → Type 0) (t : Bool) (e : Refusal) (r : Result Plan Refusal) → (t ≡ false → Holds P r) → Holds P (unless t e r)
unless_holds P true e r h = tt
unless_holds P false e r h = h refl

pub field_holds : (P : Plan → Type 0) (o : Option Found) (f : Found → Result Plan Refusal) → ((x : Found) → o ≡ Some x → Holds P (f x)) → Holds P (with_field o f)
field_holds P None f h = tt
field_holds P (Some x) f h = h x refl

pub place_holds : (P : Plan → Type 0) (o : Option (List Frame × Entity)) (f : List Frame → Entity → Result Plan Refusal) → ((fs : List Frame) (s : Entity) → o ≡ Some (fs, s) → Holds P (f fs s)) → Holds P (with_place o f)
place_holds P None f h = tt
place_holds P (Some q) f h = h q.0 q.1 refl
