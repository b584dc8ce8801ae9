-- A part more: what is answered is what is defined.
use Rattle.std.proofs.Common.{◌≡◌, ◌↔◌, ◌==◌, ◌&&◌, ◌||◌, ◌+◌, ◌<◌, ◌++◌, ℕ, zero, suc, Bool, true, false, not, Option, None, Some, Ok, List, [], ◌∷◌, refl, ap, sym, ◌∙◌, subst, length, arith, inl, inr, append_assoc}
use Rattle.std.proofs.lemmas.Bool.{cases_Bool, eqb-true}
use Rattle.mk_line.specs.declared.cutting.Ending.{Ending}
use Rattle.mk_line.specs.Lines.{TextLine, cut, text_of, eol_of, is_open, AreLines, is_nil}
use Rattle.mk_line.proofs.Cuts.{text_cut, cut_text, lines_cut, text_append}
use Rattle.mk_head.specs.Split.{Head, is_start, head_lines}
use Rattle.std.specs.Option.{option_to_list}
use Rattle.mk_head.specs.Splits.{IsRun, Stops, Follows}
use Rattle.mk_tree.specs.Cutting.{tail_lines}
use Rattle.mk_tree.specs.Kinds.{Message, Multi, kind, kind_at}
use Rattle.mk_tree.specs.Tree.{Entity, leaf, message, multi, Parts, no_parts, part, print, print_parts, entity_head, field_lines}
use Rattle.mk_tree.specs.Documents.{IsStable, levels, tree}
use Rattle.mk_tree.specs.Reading.{IsWellRead}
use Rattle.mk_tree.specs.Spans.{size, digest_below}
use Rattle.mk_tree.specs.Sections.{Placed, section_at, root_of, body_lines}
use Rattle.mk_tree.specs.Places.{Frame, append_parts, below, left_at, default_at}
use Rattle.mk_tree.specs.Locality.{BeginsPlain, FitsIn, RootFits}
use Rattle.mk_tree.proofs.Descent.{size_append}
use Rattle.mk_tree.proofs.Kept.{print_read}
use Rattle.mk_tree.proofs.Plugs.{untyped, multi_leaf, print_append, fits_in_of}
use Rattle.mk_tree.proofs.FieldsChanged.{stable_well}
use Rattle.mk_tree.proofs.Stability.{read_stable}
use Rattle.mk_decide.specs.Edits.{InsertPart, NotMultipart, BadPlace}
use Rattle.mk_decide.specs.EditSplices.{part_splices, front_lines}
use Rattle.mk_line.specs.Marks.{delimiter_line}
use Rattle.mk_decide.specs.Plans.{insert, part_plan, parts_at, planned, plan_of}
use Rattle.mk_decide.proofs.PlanNames.{insert_between, part_read, HeaderEnds}
use Rattle.mk_decide.specs.Outcomes.{has_mark, hit, edited}
use Rattle.mk_decide.specs.SectionAnswers.{or_own, body_place, part_bytes, ends_at_delimiter, insertion_at, insertion_of, insertion_answer}
use Rattle.mk_decide.specs.Local.{IsLocal}
use Rattle.mk_decide.specs.Around.{hit_below}
use Rattle.mk_decide.specs.Looks.{has_separator}
use Rattle.mk_decide.specs.LocalAnswers.{after_first, opens_at}
use Rattle.mk_decide.proofs.EveryEdit.{locality_lem, eol_closed}
use Rattle.mk_decide.proofs.Decisions.{AnswersAs, planned_answers, fits_is, unplanned}
use Rattle.mk_decide.proofs.AroundFrames.{frames_glued}
use Rattle.mk_decide.proofs.Bounds.{read_bound, delimiter_is}
use Rattle.mk_decide.proofs.FieldFits.{entity_are, before_each}
use Rattle.mk_decide.proofs.Gaps.{at_parts, gap_told}
use Rattle.mk_decide.proofs.HeadFits.{root_told, plain_none}
use Rattle.mk_decide.proofs.LocalLooks.{separator_there, fits_unglued, glued_bare}
use Rattle.mk_decide.proofs.NewFields.{ends_follow, follow_ends}
use Rattle.mk_decide.proofs.Openings.{Each, each_line, each_front, each_back, some_text}
use Rattle.mk_decide.proofs.PartChanges.{Sides, sides, counted_at, print_added, print_sides}
use Rattle.mk_decide.proofs.PartsLead.{FrontOf, front_is}
use Rattle.mk_decide.proofs.PutSites.{place_found}
use Rattle.mk_decide.proofs.SiteFacts.{as_long}
use Rattle.mk_decide.proofs.SiteLines.{plan_here, splices_here, opens_here, hit_here}
use Rattle.mk_decide.proofs.SectionSites.{IsSite, site}

true_false : {A : Type 0} → true ≡ false → A
true_false e = cc

-- a multipart has fields
typed : kind [] true ≡ Message
unfolding kind
typed = refl

bare_kind : (n : ℕ) (d : Bool) (b : List ℕ) (g : Bool) → kind_at n [] d ≡ Multi b g → ⊥
bare_kind zero d b g e = multi_leaf b g (sym e)
bare_kind (suc n) true b g e = let none : Message ≡ Multi b g = sym typed ∙ e in cc
bare_kind (suc n) false b g e = multi_leaf b g (sym e ∙ untyped (suc n))

some_fields : (n : ℕ) (d : Bool) (b : List ℕ) (g : Bool) (fields : List TextLine) → kind_at n fields d ≡ Multi b g → not (is_nil fields) ≡ true
some_fields n d b g [] e = absurd (bare_kind n d b g e)
some_fields n d b g (l ∷ ls) e = refl

not_bare : (n : ℕ) (d : Bool) (b : List ℕ) (g : Bool) (fields : List TextLine) → kind_at n fields d ≡ Multi b g → fields ≡ [] → ⊥
not_bare n d b g fields e z = bare_kind n d b g (sym (ap (λ xs. kind_at n xs d) z) ∙ e)

stopped : (t : Bool) → not t ≡ true → (t || (true && false)) ≡ false
stopped true h = cc
stopped false h = refl

started : (t : Bool) → (t || (true && false)) ≡ false → not t ≡ true
started true h = cc
started false h = refl

-- the delimiter after fields
delimiter_stops : (eol : Ending) (b : List ℕ) (rest : List TextLine) → not (is_start (delimiter_line eol b)) ≡ true → Stops true (delimiter_line eol b ∷ rest)
delimiter_stops eol b rest h = (stopped (is_start (delimiter_line eol b)) h, refl)

stops_delimiter : (eol : Ending) (b : List ℕ) (rest : List TextLine) → Stops true (delimiter_line eol b ∷ rest) → not (is_start (delimiter_line eol b)) ≡ true
stops_delimiter eol b rest h = started (is_start (delimiter_line eol b)) h.0

differ : (n : ℕ) → (n == n) ≡ false → ⊥
differ n e = grind (arith, e)

nothing : (start head : ℕ) → start + (head + 0) ≡ start + head
nothing start head = omega arith

passed : {t : Bool} → t ≡ false → (u : Bool) → (not t || u) ≡ true
passed e u = rw e refl

-- where lines stand between, they are the first
more_place : (start head n : ℕ) → 0 < n → (start + (head + n) == start + head) ≡ false
more_place start head n h =
    elim (cases_Bool (start + (head + n) == start + head)) [
      | inl e ↦ let none : 0 < 0 = omega (arith, eqb-true (start + (head + n)) (start + head) e, h) in absurd (omega (arith, none))
      | inr e ↦ e
    ]

same_place : (n : ℕ) → (n == n) ≡ true
same_place n =
    elim (cases_Bool (n == n)) [
      | inl e ↦ e
      | inr e ↦ absurd (differ n e)
    ]

-- the look tells whether the fields end before the new body
abbrev look : Option TextLine → (start head place : ℕ) → TextLine → Bool
look o start head place l = has_separator o || (not (place == start + head) || not (is_start l))

body_told : (eol : Ending) (b : List ℕ) (start head : ℕ) (pre : List TextLine) (before : Parts) (x : Entity) (old_after after : Parts) (tail : List TextLine) → Each pre → Each (print_parts before) → Stops true (pre ++ (print_parts (append_parts before old_after) ++ tail))
    → ((look None start head (start + (head + size (pre ++ print_parts before))) (delimiter_line eol b) ≡ true) ↔ Stops true (pre ++ (print_parts (append_parts before (part (delimiter_line eol b) x after)) ++ tail)))
body_told eol b start head (l ∷ pre) before x old_after after tail e f s = ((λ h. s), (λ h. passed (more_place start head (size (l ∷ (pre ++ print_parts before))) (some_text l (pre ++ print_parts before) e.0)) (not (is_start (delimiter_line eol b)))))
body_told eol b start head [] (part l y ps) x old_after after tail e f s = ((λ h. s), (λ h. passed (more_place start head (size (l ∷ (print y ++ print_parts ps))) (some_text l (print y ++ print_parts ps) f.0)) (not (is_start (delimiter_line eol b)))))
body_told eol b start head [] no_parts x old_after after tail e f s =
    let at : (start + (head + size ([] ++ print_parts no_parts)) == start + head) ≡ true = ap (λ n. n == start + head) (nothing start head) ∙ same_place (start + head) in
    let test : look None start head (start + (head + size ([] ++ print_parts no_parts))) (delimiter_line eol b) ≡ not (is_start (delimiter_line eol b)) = rw at refl in (
      (λ h. delimiter_stops eol b ((print x ++ print_parts after) ++ tail) (sym test ∙ h)),
      (λ h. test ∙ stops_delimiter eol b ((print x ++ print_parts after) ++ tail) h),
    )

ends_by : (fields : List TextLine) (o : Option TextLine) (start head : ℕ) (eol : Ending) (b : List ℕ) (pre : List TextLine) (before : Parts) (x : Entity) (after : Parts) (tail : List TextLine) → not (is_nil fields) ≡ true → IsRun false fields → Each (option_to_list o) → Each pre → Each (print_parts before)
    → Follows (not (is_nil fields)) o (pre ++ (print_parts (append_parts before after) ++ tail))
    → ((look o start head (start + (head + size (pre ++ print_parts before))) (delimiter_line eol b) ≡ true) ↔ HeaderEnds fields o (pre ++ (print_parts (append_parts before (part (delimiter_line eol b) x after)) ++ tail)))
ends_by fields (Some l) start head eol b pre before x after tail m r e f g s = ((λ h. tt), (λ h. rw (separator_there l e.0) refl))
ends_by fields None start head eol b pre before x after tail m r e f g s =
    let new = pre ++ (print_parts (append_parts before (part (delimiter_line eol b) x after)) ++ tail) in
    let old = pre ++ (print_parts (append_parts before after) ++ tail) in
    let told = body_told eol b start head pre before x after after tail f g (subst (λ t. Stops t old) m s) in (
      (λ h. follow_ends fields None new r (subst (λ t. Stops t new) (sym m) (told.0 h))),
      (λ h. told.1 (subst (λ t. Stops t new) m (ends_follow (not (is_nil fields)) fields None old new s h))),
    )

-- the new multipart
abbrev added : List Frame → Head → List ℕ → List TextLine → Option (TextLine × List TextLine) → Ending → List ℕ → Parts × Parts → Entity
added fs h b pre t eol given q = multi h b pre (append_parts q.0 (part (delimiter_line eol b) (part_read fs h (cut given)) q.1)) t

-- what is known where it is put
record IsSpot (text path : List ℕ) (p : Placed) (s : IsSite text path p) (h : Head) (b : List ℕ) (pre : List TextLine) (ps : Parts) (t : Option (TextLine × List TextLine)) : Type 0 where
  whole : p.entity ≡ multi h b pre ps t
  lines : AreLines (print (multi h b pre ps t))
  well : IsWellRead (left_at levels s.around) (default_at false s.around) (multi h b pre ps t)

spot : (text path : List ℕ) (p : Placed) (s : IsSite text path p) (h : Head) (b : List ℕ) (pre : List TextLine) (ps : Parts) (t : Option (TextLine × List TextLine)) → p.entity ≡ multi h b pre ps t → IsSpot text path p s h b pre ps t
spot text path p s h b pre ps t e = record {
  whole = e;
  lines = subst (λ x. AreLines (print x)) e (entity_are text path p s);
  well = subst (IsWellRead (left_at levels s.around) (default_at false s.around)) e s.well;
}

-- the header ends before the new body exactly where the look says so
ends_told : (text path : List ℕ) (p : Placed) (s : IsSite text path p) (h : Head) (b : List ℕ) (pre : List TextLine) (ps : Parts) (t : Option (TextLine × List TextLine)) → IsSpot text path p s h b pre ps t → (eol : Ending) (x : Entity) (q : Parts × Parts) → append_parts q.0 q.1 ≡ ps
    → ((look h.separator p.start (size (head_lines h)) (p.start + (size (head_lines h) + size (pre ++ print_parts q.0))) (delimiter_line eol b) ≡ true) ↔ HeaderEnds h.fields h.separator (pre ++ (print_parts (append_parts q.0 (part (delimiter_line eol b) x q.1)) ++ tail_lines t)))
ends_told text path p s h b pre ps t i eol x q a =
    let each = each_line (print (multi h b pre ps t)) i.lines in
    let head = each_front (head_lines h) (pre ++ (print_parts ps ++ tail_lines t)) each in
    let body = each_back (head_lines h) (pre ++ (print_parts ps ++ tail_lines t)) each in
    let parts = each_front (print_parts ps) (tail_lines t) (each_back pre (print_parts ps ++ tail_lines t) body) in
    let before : Each (print_parts q.0) = each_front (print_parts q.0) (print_parts q.1) (subst Each (ap print_parts (sym a) ∙ print_append q.0 q.1) parts) in
    let n = left_at levels s.around in
    let d = default_at false s.around in
    ends_by h.fields h.separator p.start (size (head_lines h)) eol b pre q.0 x q.1 (tail_lines t) (some_fields n d b (digest_below d h) h.fields i.well.1) i.well.0.run
    (each_back h.fields (option_to_list h.separator) head) (each_front pre (print_parts ps ++ tail_lines t) body) before
    (subst (λ qs. Follows (not (is_nil h.fields)) h.separator (pre ++ (print_parts qs ++ tail_lines t))) (sym a) i.well.0.next)

-- it may stand where the old one stood
outer_stays : (text path : List ℕ) (p : Placed) (s : IsSite text path p) (h : Head) (b : List ℕ) (pre : List TextLine) (ps : Parts) (t : Option (TextLine × List TextLine)) → IsSpot text path p s h b pre ps t → frames_glued false s.around ≡ false
outer_stays text path p s h b pre ps t i =
    let n = left_at levels s.around in
    let d = default_at false s.around in
    elim (cases_Bool (frames_glued false s.around)) [
      | inl g ↦
          let old : FitsIn s.around p.entity = fits_in_of levels false s.around p.entity (stable_well (tree text).envelope s.around p.entity (subst IsStable (sym s.whole) (read_stable text))) in
          let none : field_lines p.entity ≡ [] = glued_bare s.around p.entity (before_each text path p s).1 g old in
          absurd (not_bare n d b (digest_below d h) h.fields i.well.1 (sym (ap field_lines i.whole) ∙ none))
      | inr g ↦ g
    ]

first_stays : (text path : List ℕ) (p : Placed) (s : IsSite text path p) (h : Head) (b : List ℕ) (pre : List TextLine) (ps qs : Parts) (t : Option (TextLine × List TextLine)) → IsSpot text path p s h b pre ps t → RootFits (tree text).envelope s.around (multi h b pre qs t)
first_stays text path p s h b pre ps qs t i =
    let n = left_at levels s.around in
    let d = default_at false s.around in
    let rest = pre ++ (print_parts qs ++ tail_lines t) in
    let some : not (is_nil h.fields) ≡ true = some_fields n d b (digest_below d h) h.fields i.well.1 in
    (root_told (tree text).envelope s.around (multi h b pre qs t)).0
    (λ q. subst BeginsPlain (sym (append_assoc h.fields (option_to_list h.separator) rest)) (plain_none h.fields (option_to_list h.separator ++ rest) i.well.0.run (λ e. true_false (sym some ∙ e))))

-- the made line and those given
given_are : (text path : List ℕ) (p : Placed) (s : IsSite text path p) (h : Head) (b : List ℕ) (pre : List TextLine) (ps : Parts) (t : Option (TextLine × List TextLine)) → IsSpot text path p s h b pre ps t → (eol : Ending) → is_open eol ≡ false → (given : List ℕ) → AreLines (delimiter_line eol b ∷ cut given)
given_are text path p s h b pre ps t i eol c given =
    let n = left_at levels s.around in
    let d = default_at false s.around in
    let each = each_line (print (multi h b pre ps t)) i.lines in
    let fields = each_front h.fields (option_to_list h.separator) (each_front (head_lines h) (pre ++ (print_parts ps ++ tail_lines t)) each) in
    (delimiter_is eol b c (read_bound n h.fields d b (digest_below d h) fields i.well.1), (λ m. true_false (ap is_open (sym m) ∙ c)), lines_cut given)

made_text : (l : TextLine) (given : List ℕ) → text_of (l ∷ []) ++ given ≡ text_of (l ∷ cut given)
made_text l given = ap (λ t. text_of (l ∷ []) ++ t) (sym (text_cut given)) ∙ sym (text_append (l ∷ []) (cut given))

one_more : (n : ℕ) → n + 1 ≡ suc n
one_more n = omega arith

place_sum : (start : ℕ) (head pre ls : List TextLine) → start + size (head ++ (pre ++ ls)) ≡ start + (size head + size (pre ++ ls))
place_sum start head pre ls = omega (arith, size_append head (pre ++ ls))

spot_answers : (text path given : List ℕ) (k : ℕ) (p : Placed) (s : IsSite text path p) (h : Head) (b : List ℕ) (pre : List TextLine) (ps : Parts) (t : Option (TextLine × List TextLine)) → IsSpot text path p s h b pre ps t → (q : Parts × Parts) → parts_at k ps ≡ Some q → append_parts q.0 q.1 ≡ ps → front_lines k ps ≡ print_parts q.0
    → AnswersAs (InsertPart path k given) text (insertion_at text (after_first path) given b p (Some (p.start + size (head_lines h ++ (pre ++ front_lines k ps))))) (edited (InsertPart path k given) (tree text))
spot_answers text path given k p s h b pre ps t i q o a f =
    let e = InsertPart path k given in
    let eol = eol_of (cut text) in
    let closed : is_open eol ≡ false = eol_closed (cut text) in
    let l = delimiter_line eol b in
    let x = part_read s.around h (cut given) in
    let plan = part_plan eol s.around h b pre t (cut given) q in
    let envelope = (tree text).envelope in
    let root = root_of (tree text) in
    let place = p.start + size (head_lines h ++ (pre ++ front_lines k ps)) in
    let bytes = part_bytes text b given in
    let numbers : after_first path ≡ s.numbers = ap after_first s.path_is in
    let are = given_are text path p s h b pre ps t i eol closed given in
    let lines : cut bytes ≡ l ∷ cut given = ap cut (made_text l given) ∙ cut_text (l ∷ cut given) are in
    let before = head_lines h ++ (pre ++ print_parts q.0) in
    let after = print_parts q.1 ++ tail_lines t in
    let kept : print x ≡ cut given = print_read (below (left_at levels s.around)) (digest_below (default_at false s.around) h) (cut given) in
    let planned_so : plan_of e (tree text) ≡ Ok plan = plan_here e text path p s refl ∙ (ap (λ y. insert eol s.around y k (cut given)) i.whole ∙ ap (insert_between eol s.around h b pre t (cut given)) o) in
    let law = locality_lem e (tree text) s.around p.entity plan (read_stable text) (place_found text path p s) planned_so in
    let told = ends_told text path p s h b pre ps t i eol x q a in
    let head : body_place p ≡ p.start + size (head_lines h) = ap (λ y. p.start + size (head_lines (entity_head y))) i.whole in
    let at : place ≡ p.start + (size (head_lines h) + size (pre ++ print_parts q.0)) = ap (λ ls. p.start + size (head_lines h ++ (pre ++ ls))) f ∙ place_sum p.start (head_lines h) pre (print_parts q.0) in
    let test : ends_at_delimiter p place b ≡ look h.separator p.start (size (head_lines h)) (p.start + (size (head_lines h) + size (pre ++ print_parts q.0))) l =
    ap (λ y. has_separator (entity_head y).separator || (not (place == body_place p) || not (is_start l))) i.whole
    ∙ (ap (λ n. has_separator h.separator || (not (place == n) || not (is_start l))) head ∙ ap (λ n. has_separator h.separator || (not (n == p.start + size (head_lines h)) || not (is_start l))) at) in
    planned_answers e text plan (opens_at text place 0 bytes) (or_own (hit_below (cut bytes) 1 (after_first path) root) (has_mark b (cut given)) (length (after_first path) + 1)) (ends_at_delimiter p place b)
    (record { place = place; count = 0; new = bytes }) [] planned_so (splices_here e text path p s refl ∙ ap (part_splices eol p.start k given) i.whole) refl
    (opens_here text path p s plan.new before [] (l ∷ cut given) after place 0 bytes (ap print (i.whole ∙ ap (λ xs. multi h b pre xs t) (sym a)) ∙ print_sides h b pre q.0 q.1 t)
    (print_added h b pre q.0 l x q.1 t ∙ ap (λ ls. before ++ ((l ∷ ls) ++ after)) kept) are (ap (λ ls. p.start + size (head_lines h ++ (pre ++ ls))) f) refl (made_text l given))
    (ap (λ ls. or_own (hit_below ls 1 (after_first path) root) (has_mark b (cut given)) (length (after_first path) + 1)) lines
    ∙ (ap (λ ks. or_own (hit_below (l ∷ cut given) 1 ks root) (has_mark b (cut given)) (length ks + 1)) numbers
    ∙ (ap (λ r. or_own r (has_mark b (cut given)) (length s.numbers + 1)) (hit_here text path p s (l ∷ cut given))
    ∙ ap (or_own (hit 1 s.around (l ∷ cut given)) (has_mark b (cut given))) (one_more (length s.numbers) ∙ ap (λ n. suc n) (sym (as_long s.numbers (tree text).root s.around p.entity s.found))))))
    (λ c u. fits_is (ends_at_delimiter p place b) (planned envelope plan) (IsLocal envelope plan (HeaderEnds (field_lines plan.new) (entity_head plan.new).separator (body_lines plan.new))) law
    (λ g. record { closed = c; unmarked = u; own = told.0 (sym test ∙ g); outer = fits_unglued false s.around plan.new (outer_stays text path p s h b pre ps t i); first = first_stays text path p s h b pre ps (append_parts q.0 (part l x q.1)) t i })
    (λ r. test ∙ told.1 r.own))
    (λ g. record {
      numbers = s.numbers;
      around = s.around;
      section = p.entity;
      new = plan.new;
      path_is = s.path_is;
      found = s.found;
      becomes = record {
        head = h;
        boundary = b;
        preamble = pre;
        before = q.0;
        delimiter = l;
        new = x;
        after = q.1;
        tail = t;
        section_is = i.whole ∙ ap (λ xs. multi h b pre xs t) (sym a);
        result_is = refl;
        place_is = counted_at k ps q o;
        text_is = ap (λ ls. text_of (l ∷ ls)) kept ∙ sym (made_text l given);
      };
      result = refl;
      stable = g;
    })

gap_answers : (text path given : List ℕ) (k : ℕ) (p : Placed) (s : IsSite text path p) (h : Head) (b : List ℕ) (pre : List TextLine) (ps : Parts) (t : Option (TextLine × List TextLine)) → IsSpot text path p s h b pre ps t → (o : Option (Parts × Parts)) → parts_at k ps ≡ o → Sides ps o → FrontOf k ps o
    → AnswersAs (InsertPart path k given) text (insertion_at text (after_first path) given b p (at_parts (p.start + size (head_lines h ++ (pre ++ front_lines k ps))) o)) (edited (InsertPart path k given) (tree text))
gap_answers text path given k p s h b pre ps t i None o a f =
    let e = InsertPart path k given in
    let eol = eol_of (cut text) in
    unplanned e text BadPlace (plan_here e text path p s refl ∙ (ap (λ y. insert eol s.around y k (cut given)) i.whole ∙ ap (insert_between eol s.around h b pre t (cut given)) o))
gap_answers text path given k p s h b pre ps t i (Some q) o a f = spot_answers text path given k p s h b pre ps t i q o a f

insertion_by : (text path given : List ℕ) (k : ℕ) (p : Placed) (s : IsSite text path p) (x : Entity) → p.entity ≡ x → AnswersAs (InsertPart path k given) text (insertion_of text (after_first path) given k p x) (edited (InsertPart path k given) (tree text))
insertion_by text path given k p s (leaf h ls) x = unplanned (InsertPart path k given) text NotMultipart (plan_here (InsertPart path k given) text path p s refl ∙ ap (λ y. insert (eol_of (cut text)) s.around y k (cut given)) x)
insertion_by text path given k p s (message h e) x = unplanned (InsertPart path k given) text NotMultipart (plan_here (InsertPart path k given) text path p s refl ∙ ap (λ y. insert (eol_of (cut text)) s.around y k (cut given)) x)
insertion_by text path given k p s (multi h b pre ps t) x =
    subst (λ o. AnswersAs (InsertPart path k given) text (insertion_at text (after_first path) given b p o) (edited (InsertPart path k given) (tree text))) (sym (gap_told k p h b pre ps t x))
    (gap_answers text path given k p s h b pre ps t (spot text path p s h b pre ps t x) (parts_at k ps) refl (sides k ps) (front_is k ps))

pub insertion_answers : (text path given : List ℕ) (k : ℕ) (p : Placed) → section_at path (tree text) ≡ Some p → AnswersAs (InsertPart path k given) text (insertion_answer text (after_first path) given k p) (edited (InsertPart path k given) (tree text))
insertion_answers text path given k p h = insertion_by text path given k p (site text path p h) p.entity refl
