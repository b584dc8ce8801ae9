-- The plan of an edit of fields, by what it puts among them.
use Rattle.std.proofs.Common.{◌≡◌, ◌++◌, ℕ, Bool, true, false, not, Option, None, Some, Result, Ok, Err, List, [], refl, ap, sym}
use Rattle.mk_line.specs.declared.cutting.Ending.{Ending}
use Rattle.mk_line.specs.Lines.{TextLine, cut}
use Rattle.mk_head.specs.Fields.{is_one_field}
use Rattle.mk_tree.specs.Tree.{Entity, field_lines}
use Rattle.mk_tree.specs.Places.{Frame}
use Rattle.mk_tree.proofs.Plugs.{lines_end}
use Rattle.mk_decide.specs.declared.field_edits.FieldEdit.{FieldEdit}
use Rattle.mk_decide.specs.declared.field_edits.FieldEdit.TheVariants.{Add, Remove, Rename, Set}
use Rattle.mk_decide.specs.Edits.{Refusal, BadField, BadName}
use Rattle.mk_line.specs.Kinds.{is_name}
use Rattle.mk_decide.specs.FieldEdits.{Found, field_at}
use Rattle.mk_decide.specs.Plans.{Plan, fields_plan, unless, plan_at}
use Rattle.mk_decide.proofs.PlanNames.{add_plan, change_plan, drop_plan, rename_plan, with_field, put_unless}
use Rattle.mk_decide.specs.FieldPuts.{LinePut, add_put, set_put, name_put, puts, plain_of}

-- the lines with those put among them
abbrev pub lines_put : LinePut → List TextLine
lines_put q = q.before ++ (q.given ++ q.after)

abbrev pub put_plan : List Frame → Entity → LinePut → Plan
put_plan fs s q = fields_plan fs s (lines_put q) q.given

abbrev pub plan_of_put : List Frame → Entity → Result LinePut Refusal → Result Plan Refusal
plan_of_put fs s (Ok q) = Ok (put_plan fs s q)
plan_of_put fs s (Err e) = Err e

add_same : (fs : List Frame) (s : Entity) (top : Bool) (given : List TextLine) → add_plan fs s top given ≡ put_plan fs s (add_put top given (field_lines s))
add_same fs s true given = refl
add_same fs s false given = ap (λ ls. fields_plan fs s (field_lines s ++ ls) given) (sym (lines_end given))

unless_same : (fs : List Frame) (s : Entity) (t : Bool) (e : Refusal) (p : Plan) (q : LinePut) → p ≡ put_plan fs s q → unless t e (Ok p) ≡ plan_of_put fs s (put_unless t e q)
unless_same fs s true e p q h = refl
unless_same fs s false e p q h = ap (λ x. Ok x) h

found_same : (fs : List Frame) (s : Entity) (o : Option Found) (f : Found → Result Plan Refusal) (g : Found → Result LinePut Refusal) → ((x : Found) → f x ≡ plan_of_put fs s (g x)) → with_field o f ≡ plan_of_put fs s (with_field o g)
found_same fs s None f g h = refl
found_same fs s (Some x) f g h = h x

pub plan_is : (path : List ℕ) (edit : FieldEdit) (eol : Ending) (fs : List Frame) (s : Entity) → plan_at (plain_of path edit) eol fs s ≡ plan_of_put fs s (puts edit (field_lines s))
plan_is path (Add top text) eol fs s = unless_same fs s (not (is_one_field (cut text.now))) BadField (add_plan fs s top (cut text.now)) (add_put top (cut text.now) (field_lines s)) (add_same fs s top (cut text.now))
plan_is path (Remove name k) eol fs s = found_same fs s (field_at name.now k (field_lines s)) (λ f. Ok (drop_plan fs s f)) (λ f. Ok (set_put [] f)) (λ f. refl)
plan_is path (Rename name k to) eol fs s =
    found_same fs s (field_at name.now k (field_lines s)) (λ f. unless (not (is_name to.now)) BadName (Ok (rename_plan fs s to.now f))) (λ f. put_unless (not (is_name to.now)) BadName (name_put to.now f))
    (λ f. unless_same fs s (not (is_name to.now)) BadName (rename_plan fs s to.now f) (name_put to.now f) refl)
plan_is path (Set name k text) eol fs s =
    found_same fs s (field_at name.now k (field_lines s)) (λ f. unless (not (is_one_field (cut text.now))) BadField (Ok (change_plan fs s (cut text.now) f))) (λ f. put_unless (not (is_one_field (cut text.now))) BadField (set_put (cut text.now) f))
    (λ f. unless_same fs s (not (is_one_field (cut text.now))) BadField (change_plan fs s (cut text.now) f) (set_put (cut text.now) f) refl)
