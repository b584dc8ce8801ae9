-- The reasons from OpenLine to Recut hold exactly where the edited document isn't stable.
use Rattle.std.proofs.Common.{◌≡◌, ◌++◌, if◌then◌else◌, ℕ, Bool, true, false, not, Option, None, Some, Result, Ok, Err, List, [], ◌∷◌, refl, sym, ◌∙◌, subst, suc, length}
use Rattle.mk_line.specs.declared.cutting.Ending.{Ending}
use Rattle.mk_line.specs.Lines.{TextLine, text_line, cut, is_open, eol_of, AreLines, is_nil}
use Rattle.mk_line.proofs.Cuts.{lines_cut}
use Rattle.mk_head.specs.Split.{Head, head_lines}
use Rattle.mk_tree.specs.Cutting.{Unmarked, tail_lines}
use Rattle.mk_tree.specs.Tree.{Entity, leaf, message, multi, Parts, part, read, print, print_parts, field_lines, with_fields}
use Rattle.mk_tree.specs.Documents.{Document, levels, printed, document_lines, IsStable}
use Rattle.mk_tree.specs.Equal.{is_stable}
use Rattle.mk_tree.specs.Sections.{body_lines}
use Rattle.mk_tree.specs.Spans.{digest_below}
use Rattle.mk_tree.specs.Places.{Frame, append_parts, below, left_at, default_at, lines_after}
use Rattle.mk_tree.specs.Reading.{IsWellRead}
use Rattle.mk_tree.proofs.Equals.{test_stable, stable_test}
use Rattle.mk_tree.proofs.Kept.{print_read}
use Rattle.mk_tree.proofs.WellRead.{well_of}
use Rattle.mk_tree.proofs.Plugs.{unmarked_left, unmarked_right, unmarked_join, print_append, part_is}
use Rattle.mk_tree.proofs.Stability.{stable_kept, replaced}
use Rattle.mk_decide.specs.Reasons.{is_open_early}
use Rattle.mk_decide.proofs.PlanNames.{added, add_plan, drop_plan, rename_plan, change_plan, part_read, insert_between, remove, judged, IsJudged}
use Rattle.mk_decide.specs.Edits.{PlainEdit, AddField, RemoveField, RenameField, SetField, SetBody, SetSection, InsertPart, RemovePart, Wrap, path_of, Refusal, BadField, BadName, BadBoundary, BadSubtype, OpenLine, Recut}
use Rattle.mk_head.specs.Fields.{is_one_field}
use Rattle.mk_head.specs.Boundaries.{is_boundary}
use Rattle.mk_head.specs.Values.{is_token}
use Rattle.mk_line.specs.Kinds.{is_name}
use Rattle.mk_decide.specs.FieldEdits.{field_at, renamed}
use Rattle.mk_decide.proofs.Answered.{Holds, unless_holds, field_holds, place_holds}
use Rattle.mk_line.specs.Marks.{delimiter_line, close_line}
use Rattle.mk_head.specs.Types.{type_line}
use Rattle.mk_decide.specs.Wrapping.{ended_lines, other_fields, version_lines, inner_head, inner_part}
use Rattle.std.specs.Prelude.{unwrap_or}
use Rattle.mk_decide.specs.Plans.{Plan, plain_plan, fields_plan, unless, set_body, parts_at, part_plan, insert, last_without, wrap, plan_at, place_of, plan_of, planned}
use Rattle.mk_decide.specs.Outcomes.{has_mark, hit, hit_level, unless_hit, judged_by}
use Rattle.mk_decide.specs.SectionAnswers.{or_own}
use Rattle.mk_decide.specs.EditLaws.{StabilityReasons}
use Rattle.mk_decide.proofs.Openings.{early_none}
use Rattle.mk_decide.proofs.Marked.{unmarked_none, none_of, unmarked_given, fields_unmarked}

-- the lines that are looked at are lines of the new entity
pub record IsFair (p : Plan) : Type 0 where
  pub given : (b : List ℕ) → Unmarked b (print p.new) → Unmarked b p.given
  pub inside : (n : ℕ) (d : Bool) → IsWellRead n d p.new → Unmarked p.boundary p.inside

true_false : {A : Type 0} → true ≡ false → A
true_false e = cc

some_none : {A : Type 0} (level : ℕ) → ◌≡◌ {A = Option ℕ} (Some level) None → A
some_none level e = cc

told_stable : (t : Document) (s : Bool) → is_stable t ≡ s → IsJudged (if s then Ok t else Err Recut) t
told_stable t true e = (refl, test_stable t e)
told_stable t false e = (refl, λ h. true_false (sym (stable_test t h) ∙ e))

told_hit : (o : Option ℕ) (t : Document) → (IsStable t → o ≡ None) → IsJudged (unless_hit o t) t
told_hit None t f = told_stable t (is_stable t) refl
told_hit (Some level) t f = (refl, λ h. some_none level (f h))

told_open : (o : Bool) (r : Result Document Refusal) (t : Document) → (IsStable t → o ≡ false) → IsJudged r t → IsJudged (if o then Err OpenLine else r) t
told_open true r t f j = (refl, λ h. true_false (f h))
told_open false r t f j = j

pub stable_closed : (t : Document) → IsStable t → is_open_early (document_lines t) ≡ false
stable_closed t h = early_none (document_lines t) (subst AreLines (stable_kept t h).lines (lines_cut (printed t)))

none_own : (o : Option ℕ) (t : Bool) (level : ℕ) → o ≡ None → t ≡ false → or_own o t level ≡ None
none_own o t level e f = rw (e, f) refl

pub stable_unhit : (envelope : Option TextLine) (p : Plan) → IsFair p → IsStable (planned envelope p) → hit_level p ≡ None
stable_unhit envelope p f h =
    let r = (replaced envelope p.around p.new p.new h).0 h in
    let w = well_of (left_at levels p.around) (default_at false p.around) p.new r.own in
    none_own (hit 1 p.around p.given) (has_mark p.boundary p.inside) (suc (length p.around))
    (none_of 1 p.around p.given (unmarked_given p.around (print p.new) p.given f.given r.unmarked))
    (unmarked_none p.boundary p.inside (f.inside (left_at levels p.around) (default_at false p.around) w))

pub told : (envelope : Option TextLine) (p : Plan) → IsFair p → IsJudged (judged envelope p) (planned envelope p)
told envelope p f =
    told_open (is_open_early (document_lines (planned envelope p))) (unless_hit (hit_level p) (planned envelope p)) (planned envelope p)
    (stable_closed (planned envelope p)) (told_hit (hit_level p) (planned envelope p) (stable_unhit envelope p f))

-- each edit's plan is fair
pub plain_fair : (fs : List Frame) (new : Entity) (given : List TextLine) → ((b : List ℕ) → Unmarked b (print new) → Unmarked b given) → IsFair (plain_plan fs new given)
plain_fair fs new given f = record { given = f; inside = λ n d w. tt }

pub fields_fair : (fs : List Frame) (s : Entity) (fields given : List TextLine) → ((b : List ℕ) → Unmarked b fields → Unmarked b given) → IsFair (fields_plan fs s fields given)
fields_fair fs s fields given f = plain_fair fs (with_fields fields s) given (λ b u. f b (fields_unmarked b fields s u))

pub added_unmarked : (top : Bool) (given fields : List TextLine) (b : List ℕ) → Unmarked b (added top given fields) → Unmarked b given
added_unmarked true given fields b u = unmarked_left b given fields u
added_unmarked false given fields b u = unmarked_right b fields given u

pub set_unmarked : (given before after : List TextLine) (b : List ℕ) → Unmarked b (before ++ (given ++ after)) → Unmarked b given
set_unmarked given before after b u = unmarked_left b given after (unmarked_right b before (given ++ after) u)

pub renamed_unmarked : (l : TextLine) (before after : List TextLine) (b : List ℕ) → Unmarked b (before ++ (l ∷ after)) → Unmarked b (l ∷ [])
renamed_unmarked l before after b u = ((unmarked_right b before (l ∷ after) u).0, tt)

body_fair : (eol : Ending) (fs : List Frame) (s : Entity) (given : List TextLine) → Holds IsFair (set_body eol fs s given)
body_fair eol fs (leaf h ls) given = plain_fair fs (leaf (record { fields = h.fields; separator = Some (unwrap_or h.separator (text_line [] eol)) }) given) given (λ b u. unmarked_right b (h.fields ++ (unwrap_or h.separator (text_line [] eol) ∷ [])) given u)
body_fair eol fs (message h e) given = tt
body_fair eol fs (multi h b pre ps t) given = tt

part_unmarked : (c : List ℕ) (h : Head) (b : List ℕ) (pre : List TextLine) (before : Parts) (l : TextLine) (e : Entity) (after : Parts) (t : Option (TextLine × List TextLine)) → Unmarked c (print (multi h b pre (append_parts before (part l e after)) t)) → Unmarked c (l ∷ print e)
part_unmarked c h b pre before l e after t u =
    let v = unmarked_right c pre (print_parts (append_parts before (part l e after)) ++ tail_lines t) (unmarked_right c (head_lines h) (pre ++ (print_parts (append_parts before (part l e after)) ++ tail_lines t)) u) in
    let w : Unmarked c (print_parts before ++ (l ∷ (print e ++ print_parts after))) = subst (Unmarked c) (print_append before (part l e after)) (unmarked_left c (print_parts (append_parts before (part l e after))) (tail_lines t) v) in
    let x = unmarked_right c (print_parts before) (l ∷ (print e ++ print_parts after)) w in
    (x.0, unmarked_left c (print e) (print_parts after) x.1)

pub part_fair : (eol : Ending) (fs : List Frame) (h : Head) (b : List ℕ) (pre : List TextLine) (t : Option (TextLine × List TextLine)) (given : List TextLine) (q : Parts × Parts) → IsFair (part_plan eol fs h b pre t given q)
part_fair eol fs h b pre t given q =
    let kept : print (part_read fs h given) ≡ given = print_read (below (left_at levels fs)) (digest_below (default_at false fs) h) given in
    record {
      given = λ c u. let x = part_unmarked c h b pre q.0 (delimiter_line eol b) (part_read fs h given) q.1 t u in (x.0, subst (Unmarked c) kept x.1);
      inside = λ n d w. subst (Unmarked b) kept (part_is (below n) (digest_below d h) b q.0 (delimiter_line eol b) (part_read fs h given) q.1 w.2).0;
    }

between_fair : (eol : Ending) (fs : List Frame) (h : Head) (b : List ℕ) (pre : List TextLine) (t : Option (TextLine × List TextLine)) (given : List TextLine) (o : Option (Parts × Parts)) → Holds IsFair (insert_between eol fs h b pre t given o)
between_fair eol fs h b pre t given None = tt
between_fair eol fs h b pre t given (Some q) = part_fair eol fs h b pre t given q

insert_fair : (eol : Ending) (fs : List Frame) (s : Entity) (place : ℕ) (given : List TextLine) → Holds IsFair (insert eol fs s place given)
insert_fair eol fs (leaf h ls) place given = tt
insert_fair eol fs (message h e) place given = tt
insert_fair eol fs (multi h b pre ps t) place given = between_fair eol fs h b pre t given (parts_at place ps)

remove_fair : (o : Option (List Frame × Entity)) → Holds IsFair (remove o)
remove_fair None = tt
remove_fair (Some q) = plain_fair q.0 q.1 [] (λ b u. tt)

-- an ending put after lines changes no content
one_unmarked : (b : List ℕ) (eol : Ending) (t : Bool) (l : TextLine) → Unmarked b (if t then text_line l.content eol ∷ [] else l ∷ text_line [] eol ∷ []) → Unmarked b (l ∷ [])
one_unmarked b eol true l u = u
one_unmarked b eol false l u = (u.0, tt)

ended_unmarked : (b : List ℕ) (eol : Ending) (ls : List TextLine) → Unmarked b (ended_lines eol ls) → Unmarked b ls
ended_unmarked b eol [] u = tt
ended_unmarked b eol (l ∷ []) u = one_unmarked b eol (is_open l.ending) l u
ended_unmarked b eol (l ∷ m ∷ ls) u = (u.0, ended_unmarked b eol (m ∷ ls) u.1)

end_unmarked : (b : List ℕ) (eol : Ending) (t : Bool) (ls : List TextLine) → Unmarked b (if t then ls else ended_lines eol ls) → Unmarked b ls
end_unmarked b eol true ls u = u
end_unmarked b eol false ls u = ended_unmarked b eol ls u

body_unmarked : (b : List ℕ) (eol : Ending) (fs : List Frame) (s : Entity) → Unmarked b (print (inner_part eol fs s)) → Unmarked b (body_lines s)
body_unmarked b eol fs (leaf h ls) u = end_unmarked b eol (not (is_nil (lines_after fs))) ls (unmarked_right b (head_lines (inner_head eol h)) (if not (is_nil (lines_after fs)) then ls else ended_lines eol ls) u)
body_unmarked b eol fs (message h e) u = unmarked_right b (head_lines (inner_head eol h)) (print e) u
body_unmarked b eol fs (multi h c pre ps t) u = unmarked_right b (head_lines (inner_head eol h)) (pre ++ (print_parts ps ++ tail_lines t)) u

pub wrap_fair : (eol : Ending) (fs : List Frame) (s : Entity) (subtype boundary : List ℕ) → IsFair (wrap eol fs s subtype boundary)
wrap_fair eol fs s subtype boundary =
    let others = other_fields false (field_lines s) in
    let version = version_lines eol fs (other_fields false (field_lines s)) in
    let inner = inner_part eol fs s in
    record {
      given = λ b u.
          let front = unmarked_left b (others ++ (version ++ (type_line eol subtype boundary ∷ []))) (text_line [] eol ∷ []) (unmarked_left b ((others ++ (version ++ (type_line eol subtype boundary ∷ []))) ++ (text_line [] eol ∷ [])) (delimiter_line eol boundary ∷ ((print inner ++ []) ++ (close_line eol boundary ∷ []))) u) in
          let body = unmarked_right b ((others ++ (version ++ (type_line eol subtype boundary ∷ []))) ++ (text_line [] eol ∷ [])) (delimiter_line eol boundary ∷ ((print inner ++ []) ++ (close_line eol boundary ∷ []))) u in
          let head = unmarked_right b others (version ++ (type_line eol subtype boundary ∷ [])) front in
          unmarked_join b version (type_line eol subtype boundary ∷ delimiter_line eol boundary ∷ close_line eol boundary ∷ []) (unmarked_left b version (type_line eol subtype boundary ∷ []) head)
          ((unmarked_right b version (type_line eol subtype boundary ∷ []) head).0, (body.0, ((unmarked_right b (print inner ++ []) (close_line eol boundary ∷ []) body.1).0, tt)));
      inside = λ n d w. body_unmarked boundary eol fs s w.2.1;
    }

pub plan_fair : (e : PlainEdit) (eol : Ending) (fs : List Frame) (s : Entity) → Holds IsFair (plan_at e eol fs s)
plan_fair (AddField path top text) eol fs s =
    unless_holds IsFair (not (is_one_field (cut text))) BadField (Ok (add_plan fs s top (cut text))) (λ h. fields_fair fs s (added top (cut text) (field_lines s)) (cut text) (added_unmarked top (cut text) (field_lines s)))
plan_fair (RemoveField path name k) eol fs s =
    field_holds IsFair (field_at name k (field_lines s)) (λ f. Ok (drop_plan fs s f)) (λ f o. fields_fair fs s (f.before ++ f.after) [] (λ b u. tt))
plan_fair (RenameField path name k to) eol fs s =
    field_holds IsFair (field_at name k (field_lines s)) (λ f. unless (not (is_name to)) BadName (Ok (rename_plan fs s to f)))
    (λ f o. unless_holds IsFair (not (is_name to)) BadName (Ok (rename_plan fs s to f)) (λ h. fields_fair fs s (f.before ++ (renamed to f.start ∷ (f.more ++ f.after))) (renamed to f.start ∷ []) (renamed_unmarked (renamed to f.start) f.before (f.more ++ f.after))))
plan_fair (SetField path name k text) eol fs s =
    field_holds IsFair (field_at name k (field_lines s)) (λ f. unless (not (is_one_field (cut text))) BadField (Ok (change_plan fs s (cut text) f)))
    (λ f o. unless_holds IsFair (not (is_one_field (cut text))) BadField (Ok (change_plan fs s (cut text) f)) (λ h. fields_fair fs s (f.before ++ (cut text ++ f.after)) (cut text) (set_unmarked (cut text) f.before f.after)))
plan_fair (SetBody path text) eol fs s = body_fair eol fs s (cut text)
plan_fair (SetSection path text) eol fs s = plain_fair fs (read (left_at levels fs) (default_at false fs) (cut text)) (cut text) (λ b u. subst (Unmarked b) (print_read (left_at levels fs) (default_at false fs) (cut text)) u)
plan_fair (InsertPart path place text) eol fs s = insert_fair eol fs s place (cut text)
plan_fair (RemovePart path) eol fs s = remove_fair (last_without fs)
plan_fair (Wrap path subtype boundary) eol fs s =
    unless_holds IsFair (not (is_boundary boundary)) BadBoundary (unless (not (is_token subtype)) BadSubtype (Ok (wrap eol fs s subtype boundary)))
    (λ h. unless_holds IsFair (not (is_token subtype)) BadSubtype (Ok (wrap eol fs s subtype boundary)) (λ k. wrap_fair eol fs s subtype boundary))

pub fair : (e : PlainEdit) (t : Document) → Holds IsFair (plan_of e t)
fair e t = place_holds IsFair (place_of (path_of e) t.root) (plan_at e (eol_of (document_lines t))) (λ fs s o. plan_fair e (eol_of (document_lines t)) fs s)

pub stability_reasons_lem : StabilityReasons
stability_reasons_lem e t p h = subst (λ r. IsJudged (judged_by t.envelope r) (planned t.envelope p)) (sym h) (told t.envelope p (subst (Holds IsFair) h (fair e t)))
