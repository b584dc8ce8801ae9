-- A part that goes: what is answered is what is defined.
use Rattle.std.proofs.Common.{◌≡◌, ◌+◌, ◌-◌, ◌++◌, ℕ, zero, suc, Option, None, Some, Ok, List, [], ◌∷◌, refl, ap, sym, ◌∙◌, subst, length, arith, append_assoc}
use Rattle.std.specs.Option.{option_map, option_to_list}
use Rattle.mk_line.specs.Lines.{TextLine, text_of}
use Rattle.mk_head.specs.Split.{Head, head_lines}
use Rattle.mk_tree.specs.Tree.{Entity, leaf, message, multi, Parts, no_parts, part, print, print_parts}
use Rattle.mk_tree.specs.Documents.{tree, IsStable}
use Rattle.mk_tree.specs.Spans.{size}
use Rattle.mk_tree.specs.Sections.{Placed, section_at}
use Rattle.mk_tree.specs.Places.{Frame, in_message, in_multi, append_parts, part_at, step_to, lines_before}
use Rattle.mk_tree.specs.Splicing.{part_count}
use Rattle.mk_tree.proofs.Descent.{size_append}
use Rattle.mk_tree.proofs.Stability.{read_stable}
use Rattle.mk_decide.specs.Edits.{RemovePart, NotPart}
use Rattle.mk_decide.specs.EditSplices.{one_splice, front_lines, own_delimiter}
use Rattle.mk_decide.specs.Plans.{plain_plan, parts_at, without, last_without, plan_of, planned}
use Rattle.mk_decide.proofs.PlanNames.{remove}
use Rattle.mk_decide.specs.Outcomes.{edited}
use Rattle.mk_decide.specs.SectionAnswers.{outer_path, last_number, end_of, gap_at, removal, removal_from, removal_answer}
use Rattle.mk_decide.proofs.Decisions.{AnswersAs, accepted_answers, unplanned}
use Rattle.mk_decide.proofs.Gaps.{at_parts, gap_told}
use Rattle.mk_decide.proofs.Parents.{IsAround, AroundIs, around_told}
use Rattle.mk_decide.proofs.PartChanges.{Sides, sides, counted_at}
use Rattle.mk_decide.proofs.PartsLead.{front_of, before_join, last_delimiter}
use Rattle.mk_decide.proofs.Removing.{IsRemoved, removed_is}
use Rattle.mk_decide.proofs.SectionFits.{one_frame}
use Rattle.mk_decide.proofs.SiteLines.{plan_here, splices_here}
use Rattle.mk_decide.proofs.SectionSites.{IsSite, site}

no_step : {A : Type 0} (q : Frame × Entity) → ◌≡◌ {A = Option (Frame × Entity)} None (Some q) → A
no_step q h = cc

later : (g : Frame) (gs : List Frame) (o : Option Entity) → option_map {U = List Frame × Entity} (λ (q : List Frame × Entity). (g ∷ q.0, q.1)) (option_map {U = List Frame × Entity} (λ (e : Entity). (gs, e)) o) ≡ option_map {U = List Frame × Entity} (λ (e : Entity). (g ∷ gs, e)) o
later g gs None = refl
later g gs (Some e) = refl

-- the plan, where the innermost of what stands around is known
last_is : (gs : List Frame) (f : Frame) → last_without (gs ++ f ∷ []) ≡ option_map {U = List Frame × Entity} (λ (e : Entity). (gs, e)) (without f)
last_is [] f = refl
last_is (g ∷ []) f = later g [] (without f)
last_is (g ∷ k ∷ gs) f = ap (option_map (λ (q : List Frame × Entity). (g ∷ q.0, q.1))) (last_is (k ∷ gs) f) ∙ later g (k ∷ gs) (without f)

-- the part of a number: the parts before it, and those from it on
abbrev PartIs : ℕ → Parts → Parts × TextLine × Entity × Parts → Type 0
PartIs j ps q = (parts_at j ps ≡ Some (q.0, part q.1 q.2 q.3)) × (front_lines j ps ≡ print_parts q.0)

none_some : {A : Type 0} (q : Parts × TextLine × Entity × Parts) → ◌≡◌ {A = Option (Parts × TextLine × Entity × Parts)} None (Some q) → A
none_some q h = cc

abbrev part_or : Parts × TextLine × Entity × Parts → Option (Parts × TextLine × Entity × Parts) → Parts × TextLine × Entity × Parts
part_or d None = d
part_or d (Some q) = q

part_same : (p q : Parts × TextLine × Entity × Parts) → ◌≡◌ {A = Option (Parts × TextLine × Entity × Parts)} (Some p) (Some q) → p ≡ q
part_same p q h = ap (part_or q) h

part_later : (i : ℕ) (l : TextLine) (e : Entity) (ps : Parts) (q : Parts × TextLine × Entity × Parts) (o : Option (Parts × TextLine × Entity × Parts)) → ((r : Parts × TextLine × Entity × Parts) → o ≡ Some r → PartIs i ps r)
    → option_map {U = Parts × TextLine × Entity × Parts} (λ (r : Parts × TextLine × Entity × Parts). (part l e r.0, r.1, r.2, r.3)) o ≡ Some q → PartIs (suc i) (part l e ps) q
part_later i l e ps q None f h = none_some q h
part_later i l e ps q (Some r) f h =
    let k = f r refl in
    let r2 : Parts × TextLine × Entity × Parts = (part l e r.0, r.1, r.2, r.3) in
    subst (PartIs (suc i) (part l e ps)) (part_same r2 q h) (ap (option_map (λ (x : Parts × Parts). (part l e x.0, x.1))) k.0, ap (λ ls. l ∷ (print e ++ ls)) k.1)

part_is : (j : ℕ) (ps : Parts) (q : Parts × TextLine × Entity × Parts) → part_at (suc j) ps ≡ Some q → PartIs j ps q
part_is zero no_parts q h = none_some q h
part_is zero (part l e ps) q h = let r : Parts × TextLine × Entity × Parts = (no_parts, l, e, ps) in subst (PartIs zero (part l e ps)) (part_same r q h) (refl, refl)
part_is (suc i) no_parts q h = none_some q h
part_is (suc i) (part l e ps) q h = part_later i l e ps q (part_at (suc i) ps) (part_is i ps) h

no_zero : {A : Type 0} (ps : Parts) (q : Parts × TextLine × Entity × Parts) → part_at zero ps ≡ Some q → A
no_zero no_parts q h = none_some q h
no_zero (part l e ps) q h = none_some q h

-- a part of a multipart
record IsPart (number : ℕ) (h : Head) (b : List ℕ) (pre : List TextLine) (ps : Parts) (t : Option (TextLine × List TextLine)) (f : Frame) (s : Entity) : Type 0 where
  before : Parts
  delimiter : TextLine
  after : Parts
  frame : f ≡ in_multi h b pre before delimiter after t
  there : parts_at (number - 1) ps ≡ Some (before, part delimiter s after)
  front : front_lines (number - 1) ps ≡ print_parts before
  whole : append_parts before (part delimiter s after) ≡ ps
  counts : suc (part_count before) ≡ number

abbrev step_or : Frame × Entity → Option (Frame × Entity) → Frame × Entity
step_or d None = d
step_or d (Some q) = q

less : (j : ℕ) → suc j - 1 ≡ j
less j = omega arith

part_by : (number : ℕ) (h : Head) (b : List ℕ) (pre : List TextLine) (ps : Parts) (t : Option (TextLine × List TextLine)) (f : Frame) (s : Entity) (q : Parts × TextLine × Entity × Parts) → part_at number ps ≡ Some q → in_multi h b pre q.0 q.1 q.3 t ≡ f → q.2 ≡ s → IsPart number h b pre ps t f s
part_by zero h b pre ps t f s q o e k = no_zero ps q o
part_by (suc j) h b pre ps t f s q o e k =
    let r = part_is j ps q o in
    record {
      before = q.0;
      delimiter = q.1;
      after = q.3;
      frame = sym e;
      there = ap (λ n. parts_at n ps) (less j) ∙ (r.0 ∙ ap (λ x. Some (q.0, part q.1 x q.3)) k);
      front = ap (λ n. front_lines n ps) (less j) ∙ r.1;
      whole = ap (λ x. append_parts q.0 (part q.1 x q.3)) (sym k) ∙ subst (Sides ps) r.0 (sides j ps);
      counts = ap (λ n. suc n) (counted_at j ps (q.0, part q.1 q.2 q.3) r.0);
    }

part_of : (number : ℕ) (h : Head) (b : List ℕ) (pre : List TextLine) (ps : Parts) (t : Option (TextLine × List TextLine)) (f : Frame) (s : Entity) (o : Option (Parts × TextLine × Entity × Parts)) → part_at number ps ≡ o
    → option_map {U = Frame × Entity} (λ (q : Parts × TextLine × Entity × Parts). (in_multi h b pre q.0 q.1 q.3 t, q.2)) o ≡ Some (f, s) → IsPart number h b pre ps t f s
part_of number h b pre ps t f s None e h2 = no_step (f, s) h2
part_of number h b pre ps t f s (Some q) e h2 = part_by number h b pre ps t f s q e (ap (λ o. (step_or (f, s) o).0) h2) (ap (λ o. (step_or (f, s) o).1) h2)

-- where it begins
start_apart : (envelope : Option TextLine) (gs : List Frame) (h : Head) (b : List ℕ) (pre : List TextLine) (before : Parts) (l : TextLine) (after : Parts) (t : Option (TextLine × List TextLine))
    → size (option_to_list envelope ++ lines_before (gs ++ (in_multi h b pre before l after t ∷ []))) ≡ size (option_to_list envelope ++ lines_before gs) + size (front_of h pre before) + size (l ∷ [])
start_apart envelope gs h b pre before l after t =
    let around = option_to_list envelope ++ lines_before gs in
    let lines : option_to_list envelope ++ lines_before (gs ++ (in_multi h b pre before l after t ∷ [])) ≡ around ++ (front_of h pre before ++ (l ∷ [])) =
    ap (λ ls. option_to_list envelope ++ ls) (before_join gs (in_multi h b pre before l after t ∷ [])) ∙ simp append_assoc refl in
    omega (arith, ap size lines, size_append around (front_of h pre before ++ (l ∷ [])), size_append (front_of h pre before) (l ∷ []))

multi_answers : (text path : List ℕ) (number : ℕ) (p : Placed) (s : IsSite text path p) (q : Placed) (a : IsAround text path number s.around p.entity q) (h : Head) (b : List ℕ) (pre : List TextLine) (ps : Parts) (t : Option (TextLine × List TextLine)) → q.entity ≡ multi h b pre ps t
    → AnswersAs (RemovePart path) text (removal (gap_at (number - 1) q) p) (edited (RemovePart path) (tree text))
multi_answers text path number p s q a h b pre ps t x =
    let e = RemovePart path in
    let envelope = (tree text).envelope in
    let i = part_of number h b pre ps t a.frame p.entity (part_at number ps) refl (sym (ap (step_to number) x) ∙ a.step) in
    let f = in_multi h b pre i.before i.delimiter i.after t in
    let fs : s.around ≡ a.around ++ f ∷ [] = a.frames ∙ ap (λ g. a.around ++ g ∷ []) i.frame in
    let new = multi h b pre (append_parts i.before i.after) t in
    let plan = plain_plan a.around new [] in
    let planned_so : plan_of e (tree text) ≡ Ok plan = plan_here e text path p s refl ∙ ap remove (ap last_without fs ∙ last_is a.around f) in
    let front : size (front_of h pre i.before) ≡ size (head_lines h ++ (pre ++ front_lines (number - 1) ps)) = ap size (ap (λ ls. head_lines h ++ (pre ++ ls)) (sym i.front)) in
    let place = q.start + size (head_lines h ++ (pre ++ front_lines (number - 1) ps)) in
    let gap : gap_at (number - 1) q ≡ Some place = gap_told (number - 1) q h b pre ps t x ∙ ap (at_parts place) i.there in
    let mark : own_delimiter s.around ≡ i.delimiter ∷ [] = ap own_delimiter fs ∙ last_delimiter a.around f in
    let start : p.start ≡ place + size (i.delimiter ∷ []) =
    omega (arith, ap (λ (y : Placed). y.start) s.placed_is, ap (λ gs. size (option_to_list envelope ++ lines_before gs)) fs, start_apart envelope a.around h b pre i.before i.delimiter i.after t, ap (λ (y : Placed). y.start) a.placed_is, front) in
    let old = text_of (own_delimiter s.around ++ print p.entity) in
    let sizes : length old ≡ size (i.delimiter ∷ []) + size (print p.entity) = omega (arith, size_append (own_delimiter s.around) (print p.entity), ap size mark) in
    let stable : IsStable (planned envelope plan) = subst (IsRemoved envelope) planned_so (removed_is path (tree text) (read_stable text)) in
    subst (λ o. AnswersAs e text (removal o p) (edited e (tree text))) (sym gap)
    (accepted_answers e text plan (record { place = place; count = end_of p - place; new = [] }) old planned_so stable
    (splices_here e text path p s refl ∙ ap (λ n. one_splice n old []) (omega (arith, start, ap size mark)))
    (omega (arith, sizes, start))
    (record {
      around = 1 ∷ a.numbers;
      before = part_count i.before;
      text = text_of (i.delimiter ∷ print p.entity);
      path_is = a.path_is ∙ ap (λ k. (1 ∷ a.numbers) ++ k ∷ []) (sym i.counts);
      becomes = record {
        numbers = a.numbers;
        around = a.around;
        section = q.entity;
        new = new;
        path_is = refl;
        found = a.there;
        becomes = record {
          head = h;
          boundary = b;
          preamble = pre;
          before = i.before;
          delimiter = i.delimiter;
          new = p.entity;
          after = i.after;
          tail = t;
          section_is = refl;
          result_is = x ∙ ap (λ qs. multi h b pre qs t) (sym i.whole);
          place_is = refl;
          text_is = refl;
        };
        result = refl;
        stable = stable;
      };
    }))

from_answers : (text path : List ℕ) (number : ℕ) (p : Placed) (s : IsSite text path p) (q : Placed) (a : IsAround text path number s.around p.entity q) (x : Entity) → q.entity ≡ x → AnswersAs (RemovePart path) text (removal_from number p q x) (edited (RemovePart path) (tree text))
from_answers text path number p s q a (leaf h ls) x = no_step (a.frame, p.entity) (sym (ap (step_to number) x) ∙ a.step)
from_answers text path number p s q a (message h y) x =
    let e = RemovePart path in
    let frame : in_message h ≡ a.frame = one_frame number h y a.frame p.entity (sym (ap (step_to number) x) ∙ a.step) in
    unplanned e text NotPart (plan_here e text path p s refl ∙ ap remove (ap last_without (a.frames ∙ ap (λ g. a.around ++ g ∷ []) (sym frame)) ∙ last_is a.around (in_message h)))
from_answers text path number p s q a (multi h b pre ps t) x = multi_answers text path number p s q a h b pre ps t x

removal_by : (text path : List ℕ) (number : ℕ) (p : Placed) (s : IsSite text path p) (o : Option Placed) → AroundIs text path number s.around p.entity o → AnswersAs (RemovePart path) text (removal_answer number o p) (edited (RemovePart path) (tree text))
removal_by text path number p s None a = unplanned (RemovePart path) text NotPart (plan_here (RemovePart path) text path p s refl ∙ ap (λ fs. remove (last_without fs)) a)
removal_by text path number p s (Some q) a = from_answers text path number p s q a q.entity refl

pub removal_answers : (text path : List ℕ) (p : Placed) → section_at path (tree text) ≡ Some p → AnswersAs (RemovePart path) text (removal_answer (last_number path) (section_at (outer_path path) (tree text)) p) (edited (RemovePart path) (tree text))
removal_answers text path p h = let s = site text path p h in removal_by text path (last_number path) p s (section_at (outer_path path) (tree text)) (around_told text path p s)
