-- The splices of an accepted edit lead from the text before to the text after, and back; that text reads back.
use Rattle.std.proofs.Common.{◌≡◌, ◌+◌, ℕ, not, Option, None, Some, Result, Ok, Err, List, [], ◌∷◌, refl, sym, subst}
use Rattle.mk_line.specs.declared.cutting.Ending.{Ending}
use Rattle.mk_line.specs.Lines.{TextLine, text_of, cut, eol_of}
use Rattle.mk_head.specs.Boundaries.{is_boundary}
use Rattle.mk_head.specs.Values.{is_token}
use Rattle.mk_head.specs.Fields.{is_one_field, name_of}
use Rattle.mk_tree.specs.Tree.{Entity, field_lines}
use Rattle.mk_tree.specs.Documents.{Document, tree, printed, document_lines, IsStable}
use Rattle.mk_tree.specs.Spans.{size}
use Rattle.mk_tree.specs.Places.{Frame, placed}
use Rattle.mk_tree.proofs.Kept.{text_kept}
use Rattle.mk_decide.specs.Edits.{PlainEdit, AddField, RemoveField, RenameField, SetField, SetBody, SetSection, InsertPart, RemovePart, Wrap, path_of, Refusal, BadField, BadName, BadBoundary, BadSubtype}
use Rattle.mk_line.specs.Kinds.{is_name}
use Rattle.mk_decide.specs.FieldEdits.{Found, field_at}
use Rattle.mk_decide.specs.Plans.{Plan, wrap, unless, plan_at, place_of, plan_of, planned}
use Rattle.mk_decide.proofs.PlanNames.{add_plan, drop_plan, rename_plan, change_plan, with_place, splices_at, IsJudged}
use Rattle.mk_decide.specs.Outcomes.{judged_by, edited}
use Rattle.mk_splice.specs.Splices.{Splice}
use Rattle.mk_decide.specs.EditSplices.{splices_in, splices_of, for_found, one_splice}
use Rattle.mk_decide.specs.EditLaws.{SplicesLead, EditsReadBack}
use Rattle.mk_decide.proofs.Answered.{Holds, unless_holds, field_holds}
use Rattle.mk_decide.proofs.Runs.{IsFound, FoundIn, field_is}
use Rattle.mk_decide.proofs.Late.{IsFair, fair, told}
use Rattle.mk_decide.proofs.Removing.{place_there}
use Rattle.mk_decide.proofs.Leads.{Led, leads, IsLed, add_led, drop_led, change_led, rename_led}
use Rattle.mk_decide.proofs.PartsLead.{wrap_led, read_led, body_led, insert_led, remove_led}

-- the plan of an edit at a section, and its splices there
abbrev LedBy : PlainEdit → Ending → Option TextLine → List Frame → Entity → Plan → Type 0
LedBy e eol envelope fs s p = IsLed envelope fs s (splices_in e eol (placed envelope fs s).start fs s) p

-- a field that is found
found_led : (envelope : Option TextLine) (fs : List Frame) (s : Entity) (name : List ℕ) (k : ℕ) (r : Found → List Splice) (f : Found) (p : Plan) → field_at name k (field_lines s) ≡ Some f
    → (IsFound (field_lines s) f → IsLed envelope fs s (r f) p) → IsLed envelope fs s (for_found (field_at name k (field_lines s)) r) p
found_led envelope fs s name k r f p o h = subst (λ x. IsLed envelope fs s (for_found x r) p) (sym o) (h (subst (FoundIn (field_lines s)) o (field_is name k (field_lines s))))

plan_led : (e : PlainEdit) (eol : Ending) (envelope : Option TextLine) (fs : List Frame) (s : Entity) → Holds (LedBy e eol envelope fs s) (plan_at e eol fs s)
plan_led (AddField path top text) eol envelope fs s =
    unless_holds (LedBy (AddField path top text) eol envelope fs s) (not (is_one_field (cut text))) BadField (Ok (add_plan fs s top (cut text))) (λ h. add_led envelope fs s top text)
plan_led (RemoveField path name k) eol envelope fs s =
    field_holds (LedBy (RemoveField path name k) eol envelope fs s) (field_at name k (field_lines s)) (λ f. Ok (drop_plan fs s f))
    (λ f o. found_led envelope fs s name k (λ x. one_splice ((placed envelope fs s).start + size x.before) (text_of (x.start ∷ x.more)) []) f (drop_plan fs s f) o (drop_led envelope fs s f))
plan_led (RenameField path name k to) eol envelope fs s =
    field_holds (LedBy (RenameField path name k to) eol envelope fs s) (field_at name k (field_lines s)) (λ f. unless (not (is_name to)) BadName (Ok (rename_plan fs s to f)))
    (λ f o. unless_holds (LedBy (RenameField path name k to) eol envelope fs s) (not (is_name to)) BadName (Ok (rename_plan fs s to f))
    (λ h. found_led envelope fs s name k (λ x. one_splice ((placed envelope fs s).start + size x.before) (name_of x.start) to) f (rename_plan fs s to f) o (rename_led envelope fs s to f)))
plan_led (SetField path name k text) eol envelope fs s =
    field_holds (LedBy (SetField path name k text) eol envelope fs s) (field_at name k (field_lines s)) (λ f. unless (not (is_one_field (cut text))) BadField (Ok (change_plan fs s (cut text) f)))
    (λ f o. unless_holds (LedBy (SetField path name k text) eol envelope fs s) (not (is_one_field (cut text))) BadField (Ok (change_plan fs s (cut text) f))
    (λ h. found_led envelope fs s name k (λ x. one_splice ((placed envelope fs s).start + size x.before) (text_of (x.start ∷ x.more)) text) f (change_plan fs s (cut text) f) o (change_led envelope fs s text f)))
plan_led (SetBody path text) eol envelope fs s = body_led envelope eol fs s text
plan_led (SetSection path text) eol envelope fs s = read_led envelope fs s text
plan_led (InsertPart path place text) eol envelope fs s = insert_led envelope eol fs s place text
plan_led (RemovePart path) eol envelope fs s = remove_led envelope fs s
plan_led (Wrap path subtype boundary) eol envelope fs s =
    unless_holds (LedBy (Wrap path subtype boundary) eol envelope fs s) (not (is_boundary boundary)) BadBoundary (unless (not (is_token subtype)) BadSubtype (Ok (wrap eol fs s subtype boundary)))
    (λ h. unless_holds (LedBy (Wrap path subtype boundary) eol envelope fs s) (not (is_token subtype)) BadSubtype (Ok (wrap eol fs s subtype boundary)) (λ k. wrap_led envelope eol fs s subtype boundary))

-- the plan of an edit of a document, and its splices
abbrev pub LeadsOn : Document → List Splice → Plan → Type 0
LeadsOn t ss p = Led (printed t) (printed (planned t.envelope p)) ss

there_led : (e : PlainEdit) (t : Document) (o : Option (List Frame × Entity)) → place_of (path_of e) t.root ≡ o → Holds (LeadsOn t (splices_at e (eol_of (document_lines t)) t.envelope o)) (with_place o (plan_at e (eol_of (document_lines t))))
there_led e t None h = tt
there_led e t (Some q) h =
    let eol = eol_of (document_lines t) in
    subst (λ (r : Entity). Holds (λ p. Led (printed (record { envelope = t.envelope; root = r })) (printed (planned t.envelope p)) (splices_in e eol (placed t.envelope q.0 q.1).start q.0 q.1)) (plan_at e eol q.0 q.1))
    (place_there (path_of e) t.root q.0 q.1 h) (plan_led e eol t.envelope q.0 q.1)

pub edit_led : (e : PlainEdit) (t : Document) → Holds (LeadsOn t (splices_of e t)) (plan_of e t)
edit_led e t = there_led e t (place_of (path_of e) t.root) refl

-- an accepted edit is its plan
record IsAccepted (t u : Document) (ss : List Splice) : Type 0 where
  led : Led (printed t) (printed u) ss
  stable : IsStable u

err_ok : {A : Type 0} (e : Refusal) (u : Document) → ◌≡◌ {A = Result Document Refusal} (Err e) (Ok u) → A
err_ok e u h = cc

accepted_by : (t u : Document) (ss : List Splice) (r : Result Plan Refusal) → Holds IsFair r → Holds (LeadsOn t ss) r → judged_by t.envelope r ≡ Ok u → IsAccepted t u ss
accepted_by t u ss (Err e) f l h = err_ok e u h
accepted_by t u ss (Ok p) f l h =
    let j = subst (λ r. IsJudged r (planned t.envelope p)) h (told t.envelope p f) in
    record { led = subst (λ d. Led (printed t) (printed d) ss) (sym j.0) l; stable = subst IsStable (sym j.0) j.1 }

accepted : (e : PlainEdit) (t u : Document) → edited e t ≡ Ok u → IsAccepted t u (splices_of e t)
accepted e t u h = accepted_by t u (splices_of e t) (plan_of e t) (fair e t) (edit_led e t) h

pub splices_lead_lem : SplicesLead
splices_lead_lem e text u h =
    leads text (printed u) (splices_of e (tree text)) (subst (λ x. Led x (printed u) (splices_of e (tree text))) (text_kept text) (accepted e (tree text) u h).led)

pub edits_read_back_lem : EditsReadBack
edits_read_back_lem e text u h = (accepted e (tree text) u h).stable
