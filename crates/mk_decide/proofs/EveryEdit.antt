-- All nine edits: an edit of a stable document gives a stable one exactly where its local conditions hold.
use Rattle.std.proofs.Common.{◌≡◌, ◌↔◌, ◌++◌, ℕ, Bool, true, false, not, Some, Result, Ok, Err, List, [], ◌∷◌, refl, ap, sym, ◌∙◌, subst}
use Rattle.mk_line.specs.declared.cutting.Ending.{Ending}
use Rattle.mk_line.specs.declared.cutting.Ending.TheVariants.{Crlf, Lf, Missing}
use Rattle.mk_line.specs.Lines.{TextLine, cut, closed, eol_of, is_open}
use Rattle.mk_head.specs.Fields.{is_one_field}
use Rattle.mk_head.specs.Boundaries.{is_boundary}
use Rattle.mk_head.specs.Values.{is_token}
use Rattle.mk_tree.specs.Tree.{Entity, field_lines}
use Rattle.mk_tree.specs.Documents.{Document, levels, document_lines, IsStable}
use Rattle.mk_tree.specs.Places.{Frame, left_at, default_at, put}
use Rattle.mk_decide.proofs.PlanNames.{added, add_plan, drop_plan, rename_plan, change_plan, with_place}
use Rattle.mk_decide.specs.Edits.{PlainEdit, AddField, RemoveField, RenameField, SetField, SetBody, SetSection, InsertPart, RemovePart, Wrap, path_of, BadField, BadName, BadBoundary, BadSubtype, Refusal}
use Rattle.mk_line.specs.Kinds.{is_name}
use Rattle.mk_decide.specs.FieldEdits.{Found, field_at, renamed}
use Rattle.mk_decide.specs.Plans.{Plan, unless, wrap, plan_at, place_of, plan_of, planned}
use Rattle.mk_decide.specs.Local.{Own, IsLocal}
use Rattle.mk_decide.specs.EditLaws.{LocalityOfEdits}
use Rattle.mk_decide.proofs.Answered.{Holds, unless_holds, field_holds}
use Rattle.mk_decide.proofs.Late.{fields_fair, added_unmarked, renamed_unmarked, set_unmarked}
use Rattle.mk_decide.proofs.Removing.{IsRemoved, removed_is, stable_there}
use Rattle.mk_decide.proofs.Locals.{IsEdit, local_stable}
use Rattle.mk_decide.proofs.Runs.{FoundIn, IsFound, field_is}
use Rattle.mk_decide.proofs.FieldChanges.{FieldsEdit, fields_edit, add_new, drop_new, change_new, rename_new}
use Rattle.mk_decide.proofs.PartChanges.{read_edit, body_edit, insert_edit}
use Rattle.mk_decide.proofs.Typed.{may_bound}
use Rattle.mk_decide.proofs.Wraps.{wrap_edit}

-- an edit of a section shows of itself what it has to, where it is
abbrev EditedAt : PlainEdit → Ending → List Frame → Entity → Plan → Type 0
EditedAt e eol fs s p = (p.around ≡ fs) × IsEdit (left_at levels fs) (default_at false fs) s p (Own e eol s p)

not_true : (t : Bool) → not t ≡ false → t ≡ true
not_true true h = refl
not_true false h = cc

found_there : (name : List ℕ) (k : ℕ) (s : Entity) (f : Found) → field_at name k (field_lines s) ≡ Some f → IsFound (field_lines s) f
found_there name k s f e = subst (FoundIn (field_lines s)) e (field_is name k (field_lines s))

add_edit : (fs : List Frame) (s : Entity) (top : Bool) (text : List ℕ) → is_one_field (cut text) ≡ true → FieldsEdit (left_at levels fs) (default_at false fs) fs s (add_plan fs s top (cut text))
add_edit fs s top text o =
    fields_edit (left_at levels fs) (default_at false fs) fs s (added top (cut text) (field_lines s)) (cut text)
    (fields_fair fs s (added top (cut text) (field_lines s)) (cut text) (added_unmarked top (cut text) (field_lines s))) (add_new s top text o)

drop_edit : (fs : List Frame) (s : Entity) (f : Found) → IsFound (field_lines s) f → FieldsEdit (left_at levels fs) (default_at false fs) fs s (drop_plan fs s f)
drop_edit fs s f h = fields_edit (left_at levels fs) (default_at false fs) fs s (f.before ++ f.after) [] (fields_fair fs s (f.before ++ f.after) [] (λ b u. tt)) (drop_new s f h)

rename_edit : (fs : List Frame) (s : Entity) (to : List ℕ) (f : Found) → is_name to ≡ true → IsFound (field_lines s) f → FieldsEdit (left_at levels fs) (default_at false fs) fs s (rename_plan fs s to f)
rename_edit fs s to f o h =
    fields_edit (left_at levels fs) (default_at false fs) fs s (f.before ++ (renamed to f.start ∷ (f.more ++ f.after))) (renamed to f.start ∷ [])
    (fields_fair fs s (f.before ++ (renamed to f.start ∷ (f.more ++ f.after))) (renamed to f.start ∷ []) (renamed_unmarked (renamed to f.start) f.before (f.more ++ f.after))) (rename_new s f to o h)

change_edit : (fs : List Frame) (s : Entity) (text : List ℕ) (f : Found) → is_one_field (cut text) ≡ true → IsFound (field_lines s) f → FieldsEdit (left_at levels fs) (default_at false fs) fs s (change_plan fs s (cut text) f)
change_edit fs s text f o h =
    fields_edit (left_at levels fs) (default_at false fs) fs s (f.before ++ (cut text ++ f.after)) (cut text)
    (fields_fair fs s (f.before ++ (cut text ++ f.after)) (cut text) (set_unmarked (cut text) f.before f.after)) (change_new s f text o h)

-- but for the removal of a part, whose plan isn't at the section
abbrev ShowsItself : PlainEdit → Ending → List Frame → Entity → Plan → Type 0
ShowsItself (RemovePart path) eol fs s p = Unit {0}
ShowsItself e eol fs s p = EditedAt e eol fs s p

nothing : (P : Plan → Type 0) → ((p : Plan) → P p) → (r : Result Plan Refusal) → Holds P r
nothing P h (Ok p) = h p
nothing P h (Err e) = tt

shows_itself : (e : PlainEdit) (eol : Ending) (fs : List Frame) (s : Entity) → is_open eol ≡ false → Holds (ShowsItself e eol fs s) (plan_at e eol fs s)
shows_itself (AddField path top text) eol fs s c =
    unless_holds (EditedAt (AddField path top text) eol fs s) (not (is_one_field (cut text))) BadField (Ok (add_plan fs s top (cut text))) (λ h. add_edit fs s top text (not_true (is_one_field (cut text)) h))
shows_itself (RemoveField path name k) eol fs s c =
    field_holds (EditedAt (RemoveField path name k) eol fs s) (field_at name k (field_lines s)) (λ f. Ok (drop_plan fs s f)) (λ f o. drop_edit fs s f (found_there name k s f o))
shows_itself (RenameField path name k to) eol fs s c =
    field_holds (EditedAt (RenameField path name k to) eol fs s) (field_at name k (field_lines s)) (λ f. unless (not (is_name to)) BadName (Ok (rename_plan fs s to f)))
    (λ f o. unless_holds (EditedAt (RenameField path name k to) eol fs s) (not (is_name to)) BadName (Ok (rename_plan fs s to f)) (λ h. rename_edit fs s to f (not_true (is_name to) h) (found_there name k s f o)))
shows_itself (SetField path name k text) eol fs s c =
    field_holds (EditedAt (SetField path name k text) eol fs s) (field_at name k (field_lines s)) (λ f. unless (not (is_one_field (cut text))) BadField (Ok (change_plan fs s (cut text) f)))
    (λ f o. unless_holds (EditedAt (SetField path name k text) eol fs s) (not (is_one_field (cut text))) BadField (Ok (change_plan fs s (cut text) f)) (λ h. change_edit fs s text f (not_true (is_one_field (cut text)) h) (found_there name k s f o)))
shows_itself (SetBody path text) eol fs s c = body_edit eol fs s text c
shows_itself (SetSection path text) eol fs s c = (refl, read_edit fs s text)
shows_itself (InsertPart path place text) eol fs s c = insert_edit eol fs s place text c
shows_itself (RemovePart path) eol fs s c = nothing (λ p. Unit {0}) (λ p. tt) (plan_at (RemovePart path) eol fs s)
shows_itself (Wrap path subtype boundary) eol fs s c =
    unless_holds (EditedAt (Wrap path subtype boundary) eol fs s) (not (is_boundary boundary)) BadBoundary (unless (not (is_token subtype)) BadSubtype (Ok (wrap eol fs s subtype boundary)))
    (λ h. unless_holds (EditedAt (Wrap path subtype boundary) eol fs s) (not (is_token subtype)) BadSubtype (Ok (wrap eol fs s subtype boundary))
    (λ k. (refl, wrap_edit eol fs s subtype boundary c (not_true (is_token subtype) k) (may_bound boundary (not_true (is_boundary boundary) h)))))

-- made lines end
closed_open : (e : Ending) → is_open (closed e) ≡ false
closed_open Crlf = refl
closed_open Lf = refl
closed_open Missing = refl

pub eol_closed : (ls : List TextLine) → is_open (eol_of ls) ≡ false
eol_closed [] = refl
eol_closed (l ∷ ls) = closed_open l.ending

-- the plan at the section of the path
pub plan_there : (e : PlainEdit) (t : Document) (fs : List Frame) (s : Entity) (p : Plan) → place_of (path_of e) t.root ≡ Some (fs, s) → plan_of e t ≡ Ok p → plan_at e (eol_of (document_lines t)) fs s ≡ Ok p
plan_there e t fs s p o h = sym (ap (λ q. with_place q (plan_at e (eol_of (document_lines t)))) o) ∙ h

local_by : (e : PlainEdit) (t : Document) (fs : List Frame) (s : Entity) (p : Plan) → IsStable (put t.envelope fs s) → EditedAt e (eol_of (document_lines t)) fs s p
    → (IsStable (planned t.envelope p) ↔ IsLocal t.envelope p (Own e (eol_of (document_lines t)) s p))
local_by e t fs s p h k =
    local_stable t.envelope s p (Own e (eol_of (document_lines t)) s p) (subst (λ gs. IsStable (put t.envelope gs s)) (sym k.0) h)
    (subst (λ gs. IsEdit (left_at levels gs) (default_at false gs) s p (Own e (eol_of (document_lines t)) s p)) (sym k.0) k.1)

pub shown_there : (e : PlainEdit) (t : Document) (fs : List Frame) (s : Entity) (p : Plan) → place_of (path_of e) t.root ≡ Some (fs, s) → plan_of e t ≡ Ok p → ShowsItself e (eol_of (document_lines t)) fs s p
shown_there e t fs s p o h = subst (Holds (ShowsItself e (eol_of (document_lines t)) fs s)) (plan_there e t fs s p o h) (shows_itself e (eol_of (document_lines t)) fs s (eol_closed (document_lines t)))

pub locality_lem : LocalityOfEdits
locality_lem (RemovePart path) t fs s p h o k = ((λ r. tt), (λ u. subst (IsRemoved t.envelope) k (removed_is path t h)))
locality_lem (AddField path top text) t fs s p h o k = local_by (AddField path top text) t fs s p (stable_there path t fs s o h) (shown_there (AddField path top text) t fs s p o k)
locality_lem (RemoveField path name n) t fs s p h o k = local_by (RemoveField path name n) t fs s p (stable_there path t fs s o h) (shown_there (RemoveField path name n) t fs s p o k)
locality_lem (RenameField path name n to) t fs s p h o k = local_by (RenameField path name n to) t fs s p (stable_there path t fs s o h) (shown_there (RenameField path name n to) t fs s p o k)
locality_lem (SetField path name n text) t fs s p h o k = local_by (SetField path name n text) t fs s p (stable_there path t fs s o h) (shown_there (SetField path name n text) t fs s p o k)
locality_lem (SetBody path text) t fs s p h o k = local_by (SetBody path text) t fs s p (stable_there path t fs s o h) (shown_there (SetBody path text) t fs s p o k)
locality_lem (SetSection path text) t fs s p h o k = local_by (SetSection path text) t fs s p (stable_there path t fs s o h) (shown_there (SetSection path text) t fs s p o k)
locality_lem (InsertPart path place text) t fs s p h o k = local_by (InsertPart path place text) t fs s p (stable_there path t fs s o h) (shown_there (InsertPart path place text) t fs s p o k)
locality_lem (Wrap path subtype boundary) t fs s p h o k = local_by (Wrap path subtype boundary) t fs s p (stable_there path t fs s o h) (shown_there (Wrap path subtype boundary) t fs s p o k)
