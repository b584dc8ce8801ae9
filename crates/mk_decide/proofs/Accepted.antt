-- What an accepted edit gives, by its plan.
use Rattle.std.proofs.Common.{◌≡◌, ◌++◌, ℕ, Bool, true, false, Option, None, Some, Result, Ok, Err, List, refl, ap, sym, ◌∙◌, subst, append-nil}
use Rattle.mk_tree.specs.Tree.{Entity}
use Rattle.mk_tree.specs.Documents.{Document}
use Rattle.mk_tree.specs.Sections.{Placed}
use Rattle.mk_tree.specs.Places.{Frame, plug}
use Rattle.mk_decide.specs.Edits.{PlainEdit, Refusal}
use Rattle.mk_decide.proofs.PlanNames.{IsJudged, with_field}
use Rattle.mk_decide.specs.FieldEdits.{Found}
use Rattle.mk_decide.specs.Outcomes.{judged_by}
use Rattle.mk_decide.specs.Plans.{Plan, place_of, plan_of, planned, unless}
use Rattle.mk_decide.proofs.Answered.{Holds}
use Rattle.mk_decide.proofs.Late.{IsFair, fair, told}
use Rattle.mk_decide.proofs.PlacesAgain.{PathAgain, path_again}
use Rattle.std.specs.Prelude.{[]}

-- an accepted edit is its plan
pub record IsPlan (t u : Document) (e : PlainEdit) : Type 0 where
  pub plan : Plan
  pub is : plan_of e t ≡ Ok plan
  pub gives : u ≡ planned t.envelope plan

err_ok : {A : Type 0} (e : Refusal) (u : Document) → ◌≡◌ {A = Result Document Refusal} (Err e) (Ok u) → A
err_ok e u h = cc

pub plan_by : (t u : Document) (e : PlainEdit) (r : Result Plan Refusal) → plan_of e t ≡ r → Holds IsFair r → judged_by t.envelope r ≡ Ok u → IsPlan t u e
plan_by t u e (Ok p) q f h = record { plan = p; is = q; gives = (subst (λ r. IsJudged r (planned t.envelope p)) h (told t.envelope p f)).0 }
plan_by t u e (Err d) q f h = err_ok d u h

pub none_some : {A : Type 0} (p : Placed) → ◌≡◌ {A = Option Placed} None (Some p) → A
none_some p e = cc

pub some_same : (p q : Placed) → ◌≡◌ {A = Option Placed} (Some p) (Some q) → p ≡ q
some_same p q e = cc

pub ok_same : (p q : Plan) → ◌≡◌ {A = Result Plan Refusal} (Ok p) (Ok q) → p ≡ q
ok_same p q e = cc

err_plan : {A : Type 0} (e : Refusal) (p : Plan) → ◌≡◌ {A = Result Plan Refusal} (Err e) (Ok p) → A
err_plan e p h = cc

pub unless_ok : (t : Bool) (e : Refusal) (a p : Plan) → unless t e (Ok a) ≡ Ok p → a ≡ p
unless_ok true e a p h = err_plan e p h
unless_ok false e a p h = ok_same a p h

pub found_ok : (o : Option Found) (f : Found → Result Plan Refusal) (p : Plan) → with_field o f ≡ Ok p → (x : Found) × (o ≡ Some x) × (f x ≡ Ok p)
found_ok None f p h = err_plan _ p h
found_ok (Some x) f p h = (x, refl, h)

-- an entity in the place of another is found where that was
pub there_again : (path : List ℕ) (root : Entity) (fs : List Frame) (s new : Entity) → place_of path root ≡ Some (fs, s) → place_of path (plug fs new) ≡ Some (fs, new)
there_again path root fs s new o =
    let again : PathAgain path (Some (fs, s)) = subst (PathAgain path) o (path_again path root) in
    ap (λ js. place_of js (plug fs new)) (sym (append-nil path)) ∙ (again [] new ∙ ap (λ gs. Some (gs, new)) (append-nil fs))
