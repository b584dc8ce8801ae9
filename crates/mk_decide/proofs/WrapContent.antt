-- A wrapped leaf keeps its content.
use Rattle.std.proofs.Common.{◌≡◌, ◌++◌, if◌then◌else◌, ℕ, Bool, true, false, not, Option, None, Some, Result, Ok, Err, List, [], ◌∷◌, refl, ap, sym, ◌∙◌, subst}
use Rattle.std.specs.Option.{option_map}
use Rattle.mk_line.specs.declared.cutting.Ending.{Ending}
use Rattle.mk_line.specs.declared.cutting.Ending.TheVariants.{Crlf, Lf, Missing}
use Rattle.mk_line.specs.Lines.{TextLine, text_line, text_of, printed_line, is_open, eol_of, is_nil}
use Rattle.mk_head.specs.Boundaries.{is_boundary}
use Rattle.mk_head.specs.Values.{is_token}
use Rattle.mk_head.specs.Split.{Head}
use Rattle.mk_tree.specs.Tree.{Entity, leaf, message, multi, no_parts}
use Rattle.mk_tree.specs.Documents.{Document, document_lines}
use Rattle.mk_tree.specs.Sections.{Placed, section_at, unended, content_text}
use Rattle.mk_tree.specs.Places.{Frame, in_message, in_multi, plug, place_at, lines_after, put, placed}
use Rattle.mk_decide.specs.Edits.{PlainEdit, Wrap, Refusal, BadBoundary, BadSubtype}
use Rattle.mk_line.specs.Marks.{delimiter_line, close_line}
use Rattle.mk_decide.specs.Wrapping.{ended_lines, inner_part, outer_head, wrapped}
use Rattle.mk_decide.specs.Plans.{Plan, unless, wrap, plan_at, place_of, plan_of, planned}
use Rattle.mk_decide.specs.Outcomes.{judged_by}
use Rattle.mk_decide.specs.EditLaws.{IsLeaf, WrappingKeepsContent}
use Rattle.mk_decide.proofs.PlanNames.{IsJudged}
use Rattle.mk_decide.proofs.Answered.{Holds, unless_holds}
use Rattle.mk_decide.proofs.Late.{IsFair, fair, told}
use Rattle.mk_decide.proofs.EveryEdit.{plan_there}
use Rattle.mk_decide.proofs.PlacesAgain.{below_place, PathAgain, path_again, section_there}

-- an ending put after lines and taken away again
open_kept : (e : Ending) (content : List ℕ) → is_open e ≡ true → text_of (text_line content Missing ∷ []) ≡ text_of (text_line content e ∷ [])
open_kept Crlf content h = cc
open_kept Lf content h = cc
open_kept Missing content h = refl

last_kept : (eol : Ending) (t : Bool) (l : TextLine) → is_open l.ending ≡ t → text_of (unended (if t then text_line l.content eol ∷ [] else l ∷ text_line [] eol ∷ [])) ≡ text_of (l ∷ [])
last_kept eol true l h = open_kept l.ending l.content h
last_kept eol false l h = refl

unended_more : (l : TextLine) (xs : List TextLine) → not (is_nil xs) ≡ true → unended (l ∷ xs) ≡ l ∷ unended xs
unended_more l [] h = cc
unended_more l (x ∷ xs) h = refl

some_by : (eol : Ending) (t : Bool) (l : TextLine) → not (is_nil (if t then text_line l.content eol ∷ [] else l ∷ text_line [] eol ∷ [])) ≡ true
some_by eol true l = refl
some_by eol false l = refl

some_ended : (eol : Ending) (l : TextLine) (ls : List TextLine) → not (is_nil (ended_lines eol (l ∷ ls))) ≡ true
some_ended eol l [] = some_by eol (is_open l.ending) l
some_ended eol l (m ∷ ls) = refl

text_kept : (eol : Ending) (ls : List TextLine) → text_of (unended (ended_lines eol ls)) ≡ text_of ls
text_kept eol [] = refl
text_kept eol (l ∷ []) = last_kept eol (is_open l.ending) l refl
text_kept eol (l ∷ m ∷ ls) = ap text_of (unended_more l (ended_lines eol (m ∷ ls)) (some_ended eol m ls)) ∙ ap (λ x. printed_line l ++ x) (text_kept eol (m ∷ ls))

content_kept : (eol : Ending) (followed : Bool) (ls : List TextLine) → text_of (unended (if followed then ls else ended_lines eol ls)) ≡ text_of (if followed then unended ls else ls)
content_kept eol true ls = refl
content_kept eol false ls = text_kept eol ls

-- the part is followed by the close line
line_front : (xs ys : List TextLine) → not (is_nil xs) ≡ true → not (is_nil (xs ++ ys)) ≡ true
line_front [] ys h = cc
line_front (x ∷ xs) ys h = refl

inner_followed : (fs : List Frame) (f : Frame) → not (is_nil (lines_after (f ∷ []))) ≡ true → not (is_nil (lines_after (fs ++ (f ∷ [])))) ≡ true
inner_followed [] f h = h
inner_followed (in_message k ∷ fs) f h = inner_followed fs f h
inner_followed (in_multi k b pre before l after t ∷ fs) f h = line_front (lines_after (fs ++ (f ∷ []))) _ (inner_followed fs f h)

abbrev inner_frame : Ending → List Frame → Entity → List ℕ → List ℕ → Frame
inner_frame eol fs s subtype b = in_multi (outer_head eol fs s subtype b) b [] no_parts (delimiter_line eol b) no_parts (Some (close_line eol b, []))

inner_content : (envelope : Option TextLine) (eol : Ending) (fs : List Frame) (h : Head) (ls : List TextLine) (subtype b : List ℕ)
    → content_text (placed envelope (fs ++ (inner_frame eol fs (leaf h ls) subtype b ∷ [])) (inner_part eol fs (leaf h ls))) ≡ content_text (placed envelope fs (leaf h ls))
inner_content envelope eol fs h ls subtype b =
    let new = if not (is_nil (lines_after fs)) then ls else ended_lines eol ls in
    ap (λ t. text_of (if t then unended new else new)) (inner_followed fs (inner_frame eol fs (leaf h ls) subtype b) refl)
    ∙ content_kept eol (not (is_nil (lines_after fs))) ls

-- an accepted edit is its plan
record IsPlan (t u : Document) (e : PlainEdit) : Type 0 where
  plan : Plan
  is : plan_of e t ≡ Ok plan
  gives : u ≡ planned t.envelope plan

err_ok : {A : Type 0} (e : Refusal) (u : Document) → ◌≡◌ {A = Result Document Refusal} (Err e) (Ok u) → A
err_ok e u h = cc

plan_by : (t u : Document) (e : PlainEdit) (r : Result Plan Refusal) → plan_of e t ≡ r → Holds IsFair r → judged_by t.envelope r ≡ Ok u → IsPlan t u e
plan_by t u e (Ok p) q f h = record { plan = p; is = q; gives = (subst (λ r. IsJudged r (planned t.envelope p)) h (told t.envelope p f)).0 }
plan_by t u e (Err d) q f h = err_ok d u h

wrap_is : (path subtype b : List ℕ) (eol : Ending) (fs : List Frame) (s : Entity) → Holds (λ p. p ≡ wrap eol fs s subtype b) (plan_at (Wrap path subtype b) eol fs s)
wrap_is path subtype b eol fs s =
    unless_holds (λ p. p ≡ wrap eol fs s subtype b) (not (is_boundary b)) BadBoundary (unless (not (is_token subtype)) BadSubtype (Ok (wrap eol fs s subtype b)))
    (λ h. unless_holds (λ p. p ≡ wrap eol fs s subtype b) (not (is_token subtype)) BadSubtype (Ok (wrap eol fs s subtype b)) (λ k. refl))

-- the part in the wrapped document
none_some : {A : Type 0} (p : Placed) → ◌≡◌ {A = Option Placed} None (Some p) → A
none_some p e = cc

some_same : (p q : Placed) → ◌≡◌ {A = Option Placed} (Some p) (Some q) → p ≡ q
some_same p q e = cc

kept_leaf : (path subtype b : List ℕ) (t u : Document) (fs : List Frame) (s : Entity) → place_of path t.root ≡ Some (fs, s) → IsLeaf s → u ≡ put t.envelope fs (wrapped (eol_of (document_lines t)) fs s subtype b)
    → ((js : List ℕ) (x : Entity) → place_of (path ++ js) (plug fs x) ≡ below_place fs (place_at js x)) → option_map content_text (section_at (path ++ 1 ∷ []) u) ≡ Some (content_text (placed t.envelope fs s))
kept_leaf path subtype b t u fs (message h x) o l e a = absurd l
kept_leaf path subtype b t u fs (multi h c pre ps x) o l e a = absurd l
kept_leaf path subtype b t u fs (leaf h ls) o l e a =
    let eol = eol_of (document_lines t) in
    let new = wrapped eol fs (leaf h ls) subtype b in
    ap (λ (d : Document). option_map content_text (section_at (path ++ 1 ∷ []) d)) e
    ∙ (ap (option_map content_text) (section_there (path ++ 1 ∷ []) (put t.envelope fs new))
    ∙ (ap (λ o. option_map content_text (option_map (λ (q : List Frame × Entity). placed t.envelope q.0 q.1) o)) (a (1 ∷ []) new)
    ∙ ap (λ x. Some x) (inner_content t.envelope eol fs h ls subtype b)))

kept_there : (path subtype b : List ℕ) (t u : Document) (p : Placed) (o : Option (List Frame × Entity)) → place_of path t.root ≡ o → option_map (λ q. placed t.envelope q.0 q.1) o ≡ Some p → IsLeaf p.entity → IsPlan t u (Wrap path subtype b)
    → option_map content_text (section_at (path ++ 1 ∷ []) u) ≡ Some (content_text p)
kept_there path subtype b t u p None o e l h = none_some p e
kept_there path subtype b t u p (Some q) o e l h =
    let same : placed t.envelope q.0 q.1 ≡ p = some_same (placed t.envelope q.0 q.1) p e in
    let plan : h.plan ≡ wrap (eol_of (document_lines t)) q.0 q.1 subtype b = subst (Holds (λ p. p ≡ wrap (eol_of (document_lines t)) q.0 q.1 subtype b)) (plan_there (Wrap path subtype b) t q.0 q.1 h.plan o h.is) (wrap_is path subtype b (eol_of (document_lines t)) q.0 q.1) in
    kept_leaf path subtype b t u q.0 q.1 o (subst (λ (x : Placed). IsLeaf x.entity) (sym same) l) (h.gives ∙ ap (planned t.envelope) plan)
    (subst (PathAgain path) o (path_again path t.root))
    ∙ ap (λ x. Some (content_text x)) same

pub wrapping_keeps_lem : WrappingKeepsContent
wrapping_keeps_lem path subtype b t u p e l h =
    kept_there path subtype b t u p (place_of path t.root) refl (sym (section_there path t) ∙ e) l
    (plan_by t u (Wrap path subtype b) (plan_of (Wrap path subtype b) t) refl (fair (Wrap path subtype b) t) h)
