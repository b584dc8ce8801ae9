-- What an edit is answered, by its plan and by looks at it: the bytes that it puts in the place of others, or the first
-- reason against it.
use Rattle.std.proofs.Common.{◌≡◌, ◌↔◌, ◌+◌, ◌≤◌, ◌++◌, if◌then◌else◌, ℕ, Bool, true, false, Option, None, Some, Result, Ok, Err, List, [], ◌∷◌, refl, ap, sym, ◌∙◌, subst, length, take, drop, arith, length-append, IfOk, IfErr}
use Rattle.std.proofs.Math.Seq.{take-append_seam, drop-append_seam}
use Rattle.std.specs.Option.{option_map}
use Rattle.mk_line.specs.Lines.{eol_of}
use Rattle.mk_tree.specs.Tree.{Entity}
use Rattle.mk_tree.specs.Documents.{Document, IsStable, tree, printed, document_lines}
use Rattle.mk_tree.specs.Equal.{is_stable}
use Rattle.mk_splice.specs.Splices.{spliced, Splice, forth_step}
use Rattle.mk_tree.specs.Sections.{Placed, section_at}
use Rattle.mk_tree.specs.Places.{Frame, placed}
use Rattle.mk_tree.proofs.Equals.{test_stable, stable_test}
use Rattle.mk_tree.proofs.Kept.{text_kept}
use Rattle.mk_decide.specs.declared.deciding.Replacement.{Replacement}
use Rattle.mk_decide.specs.declared.errors.EditError.{EditError}
use Rattle.mk_decide.specs.Reasons.{is_open_early}
use Rattle.mk_decide.specs.Edits.{PlainEdit, path_of, Refusal, NoSuchSection, OpenLine, Recut}
use Rattle.mk_decide.specs.Plans.{Plan, plan_at, place_of, plan_of, planned}
use Rattle.mk_decide.proofs.PlanNames.{with_place, judged, IsJudged}
use Rattle.mk_decide.specs.Outcomes.{hit_level, unless_hit, judged_by, edited}
use Rattle.mk_decide.specs.EditSplices.{one_splice, splices_of}
use Rattle.mk_decide.specs.Answers.{refusal_of, IsRefusedBy}
use Rattle.mk_decide.specs.LocalAnswers.{ChangesBy, IsDecided, PlainSplice, unless_recut, unless_held, answer_by, plain_splice}
use Rattle.mk_decide.proofs.Answered.{Holds}
use Rattle.mk_decide.proofs.Late.{IsFair, fair, told}
use Rattle.mk_decide.proofs.Leads.{Led, leads}
use Rattle.mk_decide.proofs.EditsLead.{edit_led}
use Rattle.mk_decide.proofs.PlacesAgain.{section_there}

-- bytes give what is defined, and are the splice of the edit
pub record GivenBy (e : PlainEdit) (text : List ℕ) (r : PlainSplice) (x : Result Document Refusal) : Type 0 where
  pub document : Document
  pub given : x ≡ Ok document
  pub printed_so : printed document ≡ spliced r.place r.count r.new text
  pub splices : splices_of e (tree text) ≡ one_splice r.place (take r.count (drop r.place text)) r.new
  pub within : r.place + r.count ≤ length text
  pub changes : ChangesBy e r (tree text) document

-- an answer is what is defined
abbrev pub AnswersAs : (e : PlainEdit) (text : List ℕ) → Result PlainSplice Refusal → Result Document Refusal → Type 0
AnswersAs e text (Ok r) x = GivenBy e text r x
AnswersAs e text (Err f) x = x ≡ Err f

pub by_open : (e : PlainEdit) (text : List ℕ) (o p : Bool) (r : Result PlainSplice Refusal) (x : Result Document Refusal) → o ≡ p → (p ≡ false → AnswersAs e text r x) → AnswersAs e text (if o then Err OpenLine else r) (if p then Err OpenLine else x)
by_open e text true true r x q k = refl
by_open e text true false r x q k = cc
by_open e text false true r x q k = cc
by_open e text false false r x q k = k refl

pub by_hit : (e : PlainEdit) (text : List ℕ) (g h : Option ℕ) (r : Result PlainSplice Refusal) (t : Document) → g ≡ h → (h ≡ None → AnswersAs e text r (unless_hit None t)) → AnswersAs e text (unless_held g r) (unless_hit h t)
by_hit e text None None r t q k = k refl
by_hit e text None (Some level) r t q k = cc
by_hit e text (Some level) h r t q k = ap (λ o. unless_hit o t) (sym q)

pub by_fit : (e : PlainEdit) (text : List ℕ) (f g : Bool) (r : PlainSplice) (t : Document) → f ≡ g → (g ≡ true → GivenBy e text r (Ok t)) → AnswersAs e text (unless_recut f r) (if g then Ok t else Err Recut)
by_fit e text true true r t q k = k refl
by_fit e text true false r t q k = cc
by_fit e text false true r t q k = cc
by_fit e text false false r t q k = refl

-- the splice of a plan, by what stands around it
abbrev splice_place : List Splice → ℕ
splice_place [] = 0
splice_place (s ∷ ss) = s.place

abbrev splice_old : List Splice → List ℕ
splice_old [] = []
splice_old (s ∷ ss) = s.old

led_given : (e : PlainEdit) (text new_text : List ℕ) (t : Document) (r : PlainSplice) (old : List ℕ) → printed t ≡ new_text → Led text new_text (splices_of e (tree text)) → splices_of e (tree text) ≡ one_splice r.place old r.new → length old ≡ r.count
    → (r.place + r.count ≤ length text → ChangesBy e r (tree text) t) → GivenBy e text r (Ok t)
led_given e text new_text t r old p l s n c =
    let same = sym s ∙ l.splices in
    let place : r.place ≡ length l.front = ap splice_place same in
    let old_is : old ≡ l.old = ap splice_old same in
    let within : r.place + r.count ≤ length text = omega (arith, place, n, ap length old_is, ap length l.before, length-append l.front (l.old ++ l.following), length-append l.old l.following) in
    let there : take r.count (drop r.place text) ≡ old =
    ap (λ k. take r.count (drop k text)) place
    ∙ (ap (λ x. take r.count (drop (length l.front) x)) l.before
    ∙ (ap (take r.count) (drop-append_seam l.front (l.old ++ l.following))
    ∙ (ap (λ k. take k (l.old ++ l.following)) (sym n ∙ ap length old_is) ∙ (take-append_seam l.old l.following ∙ sym old_is)))) in
    record {
      document = t;
      given = refl;
      printed_so = p ∙ (sym (leads text new_text (splices_of e (tree text)) l).forth ∙ (ap (λ ss. forth_step ss text) s ∙ ap (λ k. spliced r.place k r.new text) n));
      splices = s ∙ ap (λ b. one_splice r.place b r.new) (sym there);
      within = within;
      changes = c within;
    }

plan_led : (e : PlainEdit) (text : List ℕ) (p : Plan) → plan_of e (tree text) ≡ Ok p → Led text (printed (planned (tree text).envelope p)) (splices_of e (tree text))
plan_led e text p k =
    let t = tree text in
    let l : Led (printed t) (printed (planned t.envelope p)) (splices_of e t) = subst (Holds (λ (q : Plan). Led (printed t) (printed (planned t.envelope q)) (splices_of e t))) k (edit_led e t) in
    subst (λ x. Led x (printed (planned t.envelope p)) (splices_of e t)) (text_kept text) l

-- the answer of an edit that is planned, by three looks
pub planned_answers : (e : PlainEdit) (text : List ℕ) (p : Plan) (o : Bool) (h : Option ℕ) (f : Bool) (r : PlainSplice) (old : List ℕ) → plan_of e (tree text) ≡ Ok p → splices_of e (tree text) ≡ one_splice r.place old r.new → length old ≡ r.count
    → o ≡ is_open_early (document_lines (planned (tree text).envelope p)) → h ≡ hit_level p
    → (is_open_early (document_lines (planned (tree text).envelope p)) ≡ false → hit_level p ≡ None → f ≡ is_stable (planned (tree text).envelope p))
    → (IsStable (planned (tree text).envelope p) → ChangesBy e r (tree text) (planned (tree text).envelope p)) → AnswersAs e text (answer_by o h f r) (edited e (tree text))
planned_answers e text p o h f r old k s n q u g c =
    let t = tree text in
    let d = planned t.envelope p in
    subst (AnswersAs e text (answer_by o h f r)) (sym (ap (judged_by t.envelope) k))
    (by_open e text o (is_open_early (document_lines d)) (unless_held h (unless_recut f r)) (unless_hit (hit_level p) d) q
    (λ a. by_hit e text h (hit_level p) (unless_recut f r) d u
    (λ b. by_fit e text f (is_stable d) r d (g a b) (λ x. led_given e text (printed d) d r old refl (plan_led e text p k) s n (λ w. c (test_stable d x))))))

-- an edit whose document is stable
stable_ok : (d : Document) (r : Result Document Refusal) → IsJudged r d → IsStable d → r ≡ Ok d
stable_ok d (Ok t) j h = ap (λ x. Ok x) j.0
stable_ok d (Err f) j h = absurd (j.1 h)

pub accepted_answers : (e : PlainEdit) (text : List ℕ) (p : Plan) (r : PlainSplice) (old : List ℕ) → plan_of e (tree text) ≡ Ok p → IsStable (planned (tree text).envelope p) → splices_of e (tree text) ≡ one_splice r.place old r.new → length old ≡ r.count
    → ChangesBy e r (tree text) (planned (tree text).envelope p) → AnswersAs e text (Ok r) (edited e (tree text))
accepted_answers e text p r old k h s n c =
    let t = tree text in
    let d = planned t.envelope p in
    let fair_plan : IsFair p = subst (Holds IsFair) k (fair e t) in
    let ok : edited e t ≡ Ok d = ap (judged_by t.envelope) k ∙ stable_ok d (judged t.envelope p) (told t.envelope p fair_plan) h in
    subst (GivenBy e text r) (sym ok) (led_given e text (printed d) d r old refl (plan_led e text p k) s n (λ w. c))

-- whether a document is stable, by a test of what holds exactly then
same_test : (a b : Bool) → (a ≡ true → b ≡ true) → (b ≡ true → a ≡ true) → a ≡ b
same_test true b f g = sym (f refl)
same_test false true f g = g refl
same_test false false f g = refl

pub fits_is : (f : Bool) (t : Document) (A : Type 0) → (IsStable t ↔ A) → (f ≡ true → A) → (A → f ≡ true) → f ≡ is_stable t
fits_is f t A law g h = same_test f (is_stable t) (λ x. stable_test t (law.1 (g x))) (λ x. h (law.0 (test_stable t x)))

-- where there is no plan
pub unplanned : (e : PlainEdit) (text : List ℕ) (f : Refusal) → plan_of e (tree text) ≡ Err f → edited e (tree text) ≡ Err f
unplanned e text f k = ap (judged_by (tree text).envelope) k

no_place : (t : Document) (o : Option (List Frame × Entity)) → ◌≡◌ {A = Option Placed} None (option_map (λ (q : List Frame × Entity). placed t.envelope q.0 q.1) o) → o ≡ None
no_place t None e = refl
no_place t (Some q) e = cc

pub none_there : (e : PlainEdit) (text : List ℕ) → section_at (path_of e) (tree text) ≡ None → edited e (tree text) ≡ Err NoSuchSection
none_there e text n =
    let t = tree text in
    let none : place_of (path_of e) t.root ≡ None = no_place t (place_of (path_of e) t.root) (sym n ∙ section_there (path_of e) t) in
    unplanned e text NoSuchSection (ap (λ o. with_place o (plan_at e (eol_of (document_lines t)))) none)

-- what is answered is what is defined
pub decided_ok : (e : PlainEdit) (text : List ℕ) (a : Result PlainSplice Refusal) (r : PlainSplice) → AnswersAs e text a (edited e (tree text)) → a ≡ Ok r → IsDecided e text r
decided_ok e text a r h k =
    let g : GivenBy e text r (edited e (tree text)) = subst (λ x. AnswersAs e text x (edited e (tree text))) k h in
    record { document = g.document; accepted = g.given; printed_so = g.printed_so; splices = g.splices; within = g.within; changes = g.changes }

pub decided_err : (e : PlainEdit) (text : List ℕ) (a : Result PlainSplice Refusal) (o : Option Refusal) → AnswersAs e text a (edited e (tree text)) → IsRefusedBy o a → IsRefusedBy o (edited e (tree text))
decided_err e text a None h k = tt
decided_err e text a (Some f) h k = subst (λ x. AnswersAs e text x (edited e (tree text))) k h

-- in memory
pub told_ok : (e : PlainEdit) (text : List ℕ) (a : Result PlainSplice Refusal) (r : Result Replacement EditError) → AnswersAs e text a (edited e (tree text)) → IfOk r (λ x. a ≡ Ok (plain_splice x)) → IfOk r (λ x. IsDecided e text (plain_splice x))
told_ok e text a (Ok x) h k = decided_ok e text a (plain_splice x) h k
told_ok e text a (Err x) h k = tt

pub told_err : (e : PlainEdit) (text : List ℕ) (a : Result PlainSplice Refusal) (r : Result Replacement EditError) → AnswersAs e text a (edited e (tree text)) → IfErr r (λ x. IsRefusedBy (refusal_of x) a) → IfErr r (λ x. IsRefusedBy (refusal_of x) (edited e (tree text)))
told_err e text a (Ok x) h k = tt
told_err e text a (Err x) h k = decided_err e text a (refusal_of x) h k

pub told_none : (e : PlainEdit) (text path : List ℕ) (o : Option Placed) → path_of e ≡ path → o ≡ section_at path (tree text) → o ≡ None → edited e (tree text) ≡ Err NoSuchSection
told_none e text path o h s n = none_there e text (ap (λ x. section_at x (tree text)) h ∙ (sym s ∙ n))
