-- The answer by looks is what is defined: bytes that give the edited document, or the first reason against it.
use Rattle.std.proofs.Common.{◌≡◌, ◌↔◌, ◌+◌, ◌-◌, ◌++◌, ℕ, suc, Bool, true, false, Option, None, Some, Result, Ok, Err, List, [], ◌∷◌, refl, ap, sym, ◌∙◌, subst, length, take, drop, arith, IfOk, IfErr}
use Rattle.std.proofs.Math.Seq.{take-length}
use Rattle.mk_line.specs.Lines.{cut, text_of}
use Rattle.mk_tree.specs.Tree.{Entity, field_lines}
use Rattle.mk_tree.specs.Documents.{Document, IsStable, levels, tree, document_lines}
use Rattle.mk_tree.specs.Equal.{is_stable}
use Rattle.mk_tree.specs.Spans.{size}
use Rattle.mk_splice.specs.Splices.{spliced}
use Rattle.mk_tree.specs.Splicing.{ChangesFields}
use Rattle.mk_tree.specs.Sections.{Placed, root_of, section_at, head_text}
use Rattle.mk_tree.specs.Places.{Frame, left_at, default_at, placed}
use Rattle.mk_tree.proofs.Equals.{test_stable, stable_test}
use Rattle.mk_tree.proofs.Kept.{text_kept}
use Rattle.mk_tree.proofs.Descent.{size_append}
use Rattle.mk_tree.proofs.Stability.{read_stable}
use Rattle.mk_decide.specs.declared.field_edits.FieldEdit.{FieldEdit}
use Rattle.mk_decide.specs.declared.field_edits.FieldEdit.TheVariants.{Add, Remove, Rename, Set}
use Rattle.mk_decide.specs.declared.deciding.Replacement.{Replacement}
use Rattle.mk_decide.specs.declared.errors.EditError.{EditError}
use Rattle.mk_decide.specs.Reasons.{is_open_early}
use Rattle.mk_decide.specs.Edits.{AddField, RemoveField, RenameField, SetField, Refusal, NoSuchSection}
use Rattle.mk_decide.specs.Plans.{Plan, place_of, plan_of, planned}
use Rattle.mk_decide.specs.Outcomes.{hit_level, unless_hit, judged_by, edited}
use Rattle.mk_decide.proofs.PlanNames.{judged}
use Rattle.mk_decide.specs.Local.{AreFieldsFor, IsLocal}
use Rattle.mk_decide.specs.FieldPuts.{LinePut, puts, plain_of}
use Rattle.mk_decide.specs.Answers.{refusal_of, IsRefusedBy}
use Rattle.mk_decide.specs.Around.{hit_below}
use Rattle.mk_decide.specs.LocalAnswers.{PlainSplice, opens_at, fits_at, unless_recut, unless_held, answer_put, answer_puts, answer_at, answer_found, after_first, answer, plain_splice, ChangesBy, IsDecided}
use Rattle.mk_decide.proofs.EveryEdit.{locality_lem}
use Rattle.mk_decide.proofs.PutPlans.{put_plan, plan_of_put}
use Rattle.mk_decide.proofs.PutSites.{path_same, place_found, plan_found, opens_told, edited_is, hit_told, printed_told}
use Rattle.mk_decide.proofs.Decisions.{GivenBy, AnswersAs, by_open, by_hit, by_fit, none_there, decided_ok, decided_err}
use Rattle.mk_decide.proofs.PutSplices.{splices_told, splice_within}
use Rattle.mk_decide.proofs.FieldPutFacts.{IsLinePut}
use Rattle.mk_decide.proofs.SectionSites.{IsSite, site, head_cut}
use Rattle.mk_decide.proofs.FieldFits.{IsPutAt, line_put, given_put, FieldsLocal, fits_told}

-- an edit of fields is stable exactly where its local conditions hold
field_law : (path : List ℕ) (edit : FieldEdit) (t : Document) (fs : List Frame) (s : Entity) (p : Plan) → IsStable t → place_of path t.root ≡ Some (fs, s) → plan_of (plain_of path edit) t ≡ Ok p
    → (IsStable (planned t.envelope p) ↔ IsLocal t.envelope p (AreFieldsFor (left_at levels p.around) (default_at false p.around) (field_lines p.new) s))
field_law path (Add top text) t fs s p h o k = locality_lem (AddField path top text.now) t fs s p h o k
field_law path (Remove name n) t fs s p h o k = locality_lem (RemoveField path name.now n) t fs s p h o k
field_law path (Rename name n to) t fs s p h o k = locality_lem (RenameField path name.now n to.now) t fs s p h o k
field_law path (Set name n text) t fs s p h o k = locality_lem (SetField path name.now n text.now) t fs s p h o k

-- the document that an edit plans
abbrev pub put_document : (text path : List ℕ) (p : Placed) → IsSite text path p → LinePut → Document
put_document text path p s q = planned (tree text).envelope (put_plan s.around p.entity q)

pub put_law : (text path : List ℕ) (edit : FieldEdit) (p : Placed) (s : IsSite text path p) (q : LinePut) → IsPutAt edit p q → (IsStable (put_document text path p s q) ↔ FieldsLocal text path p s q)
put_law text path edit p s q h =
    field_law path edit (tree text) s.around p.entity (put_plan s.around p.entity q) (read_stable text) (place_found text path p s) (plan_found text path edit p s ∙ ap (plan_of_put s.around p.entity) h)

same_test : (a b : Bool) → (a ≡ true → b ≡ true) → (b ≡ true → a ≡ true) → a ≡ b
same_test true b f g = sym (f refl)
same_test false true f g = g refl
same_test false false f g = refl

-- the looks tell whether it is stable
stable_told : (text path : List ℕ) (edit : FieldEdit) (p : Placed) (s : IsSite text path p) (q : LinePut) → IsPutAt edit p q → is_open_early (document_lines (put_document text path p s q)) ≡ false → hit_level (put_plan s.around p.entity q) ≡ None
    → fits_at (tree text) s.numbers p (spliced (size q.before) (size q.old) (text_of q.given) (head_text p)) ≡ is_stable (put_document text path p s q)
stable_told text path edit p s q h c u =
    let fits = fits_told text path edit p s q h c u in
    let law = put_law text path edit p s q h in
    let t = put_document text path p s q in
    same_test (fits_at (tree text) s.numbers p (spliced (size q.before) (size q.old) (text_of q.given) (head_text p))) (is_stable t) (λ x. stable_test t (law.1 (fits.0 x))) (λ x. fits.1 (law.0 (test_stable t x)))

-- the splice that is answered
abbrev pub put_splice : Placed → LinePut → PlainSplice
put_splice p q = record { place = p.start + size q.before; count = size q.old - length q.kept; new = take (length (text_of q.given) - length q.kept) (text_of q.given) }

changes_by : (path : List ℕ) (edit : FieldEdit) (r : PlainSplice) (t u : Document) → ChangesFields path r.place r.count r.new t → ChangesBy (plain_of path edit) r t u
changes_by path (Add top text) r t u h = h
changes_by path (Remove name k) r t u h = h
changes_by path (Rename name k to) r t u h = h
changes_by path (Set name k text) r t u h = h

fields_changed : (text path : List ℕ) (p : Placed) (s : IsSite text path p) (q : LinePut) → IsLinePut (cut (head_text p)) q → IsStable (put_document text path p s q) → ChangesFields path (put_splice p q).place (put_splice p q).count (put_splice p q).new (tree text)
fields_changed text path p s q i k =
    let start : p.start ≡ (placed (tree text).envelope s.around p.entity).start = ap (λ (x : Placed). x.start) s.placed_is in
    let fields : size (q.before ++ (q.old ++ q.after)) ≡ size (field_lines p.entity) = ap size (i.whole ∙ head_cut text path p s) in
    let r = put_splice p q in
    record {
      numbers = s.numbers;
      around = s.around;
      section = p.entity;
      fields = q.before ++ (q.given ++ q.after);
      path_is = s.path_is;
      found = s.found;
      begins = omega (arith, start);
      ends = omega (arith, start, fields, size_append q.before (q.old ++ q.after), size_append q.old q.after);
      printed_so = ap (spliced r.place r.count r.new) (text_kept text) ∙ printed_told text path p s q i;
      stable = k;
    }

given_by : (text path : List ℕ) (edit : FieldEdit) (p : Placed) (s : IsSite text path p) (q : LinePut) → IsPutAt edit p q → IsStable (put_document text path p s q) → GivenBy (plain_of path edit) text (put_splice p q) (Ok (put_document text path p s q))
given_by text path edit p s q h k =
    let i = line_put edit p q h in
    record {
      document = put_document text path p s q;
      given = refl;
      printed_so = sym (printed_told text path p s q i);
      splices = splices_told text path edit p s q i (sym (ap (puts edit) (head_cut text path p s)) ∙ h);
      within = splice_within text path p s q i;
      changes = changes_by path edit (put_splice p q) (tree text) (put_document text path p s q) (fields_changed text path p s q i k);
    }

put_answers : (text path : List ℕ) (edit : FieldEdit) (p : Placed) (s : IsSite text path p) (q : LinePut) → IsPutAt edit p q → AnswersAs (plain_of path edit) text (answer_put text s.numbers p q) (judged (tree text).envelope (put_plan s.around p.entity q))
put_answers text path edit p s q h =
    let e = plain_of path edit in
    let i = line_put edit p q h in
    let g = given_put edit p q h in
    let plan = put_plan s.around p.entity q in
    let t = put_document text path p s q in
    let fit = fits_at (tree text) s.numbers p (spliced (size q.before) (size q.old) (text_of q.given) (head_text p)) in
    let hits = hit_below (cut (text_of q.given)) 1 s.numbers (root_of (tree text)) in
    by_open e text (opens_at text (p.start + size q.before) (size q.old) (text_of q.given)) (is_open_early (document_lines t)) (unless_held hits (unless_recut fit (put_splice p q))) (unless_hit (hit_level plan) t) (opens_told text path p s q i g)
    (λ c. by_hit e text hits (hit_level plan) (unless_recut fit (put_splice p q)) t (hit_told text path p s q g)
    (λ u. by_fit e text fit (is_stable t) (put_splice p q) t (stable_told text path edit p s q h c u) (λ k. given_by text path edit p s q h (test_stable t k))))

puts_answers : (text path : List ℕ) (edit : FieldEdit) (p : Placed) (s : IsSite text path p) (r : Result LinePut Refusal) → puts edit (cut (head_text p)) ≡ r → AnswersAs (plain_of path edit) text (answer_puts text s.numbers p r) (judged_by (tree text).envelope (plan_of_put s.around p.entity r))
puts_answers text path edit p s (Ok q) h = put_answers text path edit p s q h
puts_answers text path edit p s (Err e) h = refl

-- no section: no place
no_section : (text path : List ℕ) (edit : FieldEdit) → section_at path (tree text) ≡ None → edited (plain_of path edit) (tree text) ≡ Err NoSuchSection
no_section text path edit e = none_there (plain_of path edit) text (ap (λ x. section_at x (tree text)) (path_same path edit) ∙ e)

found_answers : (text path : List ℕ) (edit : FieldEdit) (o : Option Placed) → section_at path (tree text) ≡ o → AnswersAs (plain_of path edit) text (answer_found text path edit o) (edited (plain_of path edit) (tree text))
found_answers text path edit None e = no_section text path edit e
found_answers text path edit (Some p) e =
    let s = site text path p e in
    let r = puts edit (cut (head_text p)) in
    subst (λ ks. AnswersAs (plain_of path edit) text (answer_puts text ks p r) (edited (plain_of path edit) (tree text))) (ap after_first (sym s.path_is))
    (subst (AnswersAs (plain_of path edit) text (answer_puts text s.numbers p r)) (sym (edited_is text path edit p s)) (puts_answers text path edit p s r refl))

answers_as : (text path : List ℕ) (edit : FieldEdit) → AnswersAs (plain_of path edit) text (answer text path edit) (edited (plain_of path edit) (tree text))
answers_as text path edit = found_answers text path edit (section_at path (tree text)) refl

-- bytes that are answered give the edited document, and a reason that is answered is the first
pub answered_ok : (text path : List ℕ) (edit : FieldEdit) (r : PlainSplice) → answer text path edit ≡ Ok r → IsDecided (plain_of path edit) text r
answered_ok text path edit r e = decided_ok (plain_of path edit) text (answer text path edit) r (answers_as text path edit) e

pub answered_err : (text path : List ℕ) (edit : FieldEdit) (o : Option Refusal) → IsRefusedBy o (answer text path edit) → IsRefusedBy o (edited (plain_of path edit) (tree text))
answered_err text path edit o h = decided_err (plain_of path edit) text (answer text path edit) o (answers_as text path edit) h

-- in memory
one_less : (n : ℕ) → suc n - 1 ≡ n
one_less n = omega arith

pub following_is : (path : List ℕ) → after_first path ≡ take (length path - 1) (drop 1 path)
following_is [] = refl
following_is (k ∷ ks) = sym (ap (λ n. take n ks) (one_less (length ks)) ∙ take-length ks)

answer_there : (text path numbers : List ℕ) (edit : FieldEdit) (p : Placed) → section_at path (tree text) ≡ Some p → after_first path ≡ numbers → answer text path edit ≡ answer_at text numbers edit p
answer_there text path numbers edit p e n = ap (answer_found text path edit) e ∙ ap (λ ks. answer_at text ks edit p) n

pub found_ok : (text path numbers : List ℕ) (edit : FieldEdit) (p : Placed) (o : Option Placed) (r : Result Replacement EditError) → o ≡ section_at path (tree text) → o ≡ Some p → after_first path ≡ numbers
    → IfOk r (λ x. answer_at text numbers edit p ≡ Ok (plain_splice x)) → IfOk r (λ x. IsDecided (plain_of path edit) text (plain_splice x))
found_ok text path numbers edit p o (Ok x) s e n h = answered_ok text path edit (plain_splice x) (answer_there text path numbers edit p (sym s ∙ e) n ∙ h)
found_ok text path numbers edit p o (Err x) s e n h = tt

pub found_err : (text path numbers : List ℕ) (edit : FieldEdit) (p : Placed) (o : Option Placed) (r : Result Replacement EditError) → o ≡ section_at path (tree text) → o ≡ Some p → after_first path ≡ numbers
    → IfErr r (λ x. IsRefusedBy (refusal_of x) (answer_at text numbers edit p)) → IfErr r (λ x. IsRefusedBy (refusal_of x) (edited (plain_of path edit) (tree text)))
found_err text path numbers edit p o (Ok x) s e n h = tt
found_err text path numbers edit p o (Err x) s e n h = answered_err text path edit (refusal_of x) (subst (IsRefusedBy (refusal_of x)) (sym (answer_there text path numbers edit p (sym s ∙ e) n)) h)

pub missing_err : (text path : List ℕ) (edit : FieldEdit) (o : Option Placed) → o ≡ section_at path (tree text) → o ≡ None → edited (plain_of path edit) (tree text) ≡ Err NoSuchSection
missing_err text path edit o s e = no_section text path edit (sym s ∙ e)
