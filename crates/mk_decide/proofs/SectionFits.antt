-- Another section in the place of one: what is answered is what is defined.
use Rattle.std.proofs.Common.{take, ◌≡◌, ◌↔◌, ◌==◌, ◌||◌, ◌++◌, if◌then◌else◌, ℕ, zero, suc, Bool, true, false, not, Option, None, Some, List, [], ◌∷◌, refl, ap, sym, ◌∙◌, subst, length, add-zero}
use Rattle.std.specs.Option.{option_map, option_to_list}
use Rattle.std.proofs.lemmas.Bool.{or_parts}
use Rattle.mk_line.specs.Lines.{TextLine, cut, text_of, is_nil, AreLines}
use Rattle.mk_line.specs.Kinds.{is_from_line}
use Rattle.mk_line.proofs.Cuts.{text_cut, lines_cut}
use Rattle.mk_head.specs.Split.{Head, belongs, is_empty, head_lines}
use Rattle.mk_head.specs.Splits.{IsRun, Stops}
use Rattle.mk_head.specs.Fields.{counted}
use Rattle.mk_tree.specs.Tree.{Entity, leaf, message, multi, Parts, read, print}
use Rattle.mk_tree.specs.Documents.{levels, tree}
use Rattle.mk_tree.specs.Spans.{size, digest_below}
use Rattle.mk_tree.specs.Reading.{IsWellRead}
use Rattle.mk_tree.specs.Sections.{Placed, section_at, root_of}
use Rattle.mk_tree.specs.Places.{Frame, in_message, in_multi, part_at, step_to, left_at, default_at, lines_before}
use Rattle.mk_tree.specs.Locality.{BeginsPlain, FitsFrame, FitsIn, RootFits}
use Rattle.mk_tree.proofs.TreeNames.{Continues}
use Rattle.mk_tree.proofs.Kept.{print_read}
use Rattle.mk_tree.proofs.Plugs.{lines_end, continues_of, of_ends, first_stops}
use Rattle.mk_tree.proofs.Stability.{read_stable}
use Rattle.mk_tree.proofs.WellRead.{well_of}
use Rattle.mk_decide.specs.Edits.{SetSection}
use Rattle.mk_decide.specs.Plans.{planned}
use Rattle.mk_decide.proofs.PlanNames.{read_plan}
use Rattle.mk_decide.specs.Outcomes.{hit, edited}
use Rattle.mk_decide.specs.SectionAnswers.{or_own, outer_path, last_number, runs_on, stays_after, begins_well, stays, section_answer}
use Rattle.mk_decide.specs.Local.{IsLocal}
use Rattle.mk_decide.specs.Around.{hit_below}
use Rattle.mk_decide.specs.Looks.{has_separator}
use Rattle.mk_decide.specs.LocalAnswers.{after_first, opens_at}
use Rattle.mk_decide.proofs.EveryEdit.{locality_lem}
use Rattle.mk_decide.proofs.Decisions.{AnswersAs, planned_answers, fits_is}
use Rattle.mk_decide.proofs.FieldFits.{entity_are, nil_told, before_each}
use Rattle.mk_decide.proofs.HeadFits.{begins_root, root_told, first_is}
use Rattle.mk_decide.proofs.LocalLooks.{separator_there, from_none, none_from}
use Rattle.mk_decide.proofs.Openings.{Each, each_line, each_front, each_back}
use Rattle.mk_decide.proofs.SiteFacts.{entity_fields}
use Rattle.mk_decide.proofs.Parents.{AroundIs, around_told}
use Rattle.mk_decide.proofs.SiteLines.{plan_here, splices_here, opens_here, hit_here}
use Rattle.mk_decide.proofs.PutSites.{place_found}
use Rattle.mk_decide.proofs.SectionSites.{IsSite, site}

true_false : {A : Type 0} → true ≡ false → A
true_false e = cc

false_true : {A : Type 0} → false ≡ true → A
false_true e = cc

-- the innermost of what stands around
fits_last : (gs : List Frame) (f : Frame) (e : Entity) → FitsFrame f e → FitsIn (gs ++ f ∷ []) e
fits_last [] f e h = h
fits_last (g ∷ []) f e h = h
fits_last (g ∷ k ∷ gs) f e h = fits_last (k ∷ gs) f e h

last_fits : (gs : List Frame) (f : Frame) (e : Entity) → FitsIn (gs ++ f ∷ []) e → FitsFrame f e
last_fits [] f e h = h
last_fits (g ∷ []) f e h = h
last_fits (g ∷ k ∷ gs) f e h = last_fits (k ∷ gs) f e h

root_deep : (envelope : Option TextLine) (gs : List Frame) (f : Frame) (e : Entity) → RootFits envelope (gs ++ f ∷ []) e
root_deep (Some l) gs f e = tt
root_deep None [] f e = tt
root_deep None (g ∷ gs) f e = tt

-- a line that runs on, or doesn't
not_false : (t : Bool) → not t ≡ true → t ≡ false
not_false true h = false_true h
not_false false h = refl

stops_of : (some : Bool) (l : TextLine) (ls : List TextLine) → not (runs_on some l.content) ≡ true → Stops some (l ∷ ls)
stops_of some l ls h = or_parts (belongs some l) (is_empty l) (not_false (belongs some l || is_empty l) h)

of_stops : (some : Bool) (l : TextLine) (ls : List TextLine) → Stops some (l ∷ ls) → not (runs_on some l.content) ≡ true
of_stops some l ls h = rw (h.0, h.1) refl

-- an entity after the head of a message
stays_message : (n : ℕ) (h : Head) (x new : Entity) (ls : List TextLine) → not (is_nil (text_of h.fields)) ≡ not (is_nil h.fields) → (g : Bool) → not (has_separator h.separator) ≡ g
    → (g ≡ false → Continues h.fields h.separator new) → (g ≡ true → (Stops (not (is_nil h.fields)) ls ↔ Continues h.fields h.separator new)) → ((stays_after (message h x) ls ≡ true) ↔ Continues h.fields h.separator new)
stays_message n h x new [] m false e u k = ((λ q. u refl), (λ q. refl))
stays_message n h x new [] m true e u k = ((λ q. (k refl).0 tt), (λ q. refl))
stays_message n h x new (l ∷ ls) m false e u k = ((λ q. u refl), (λ q. rw e refl))
stays_message n h x new (l ∷ ls) m true e u k =
    let test : (if not (has_separator h.separator) then not (runs_on (not (is_nil (text_of h.fields))) l.content) else true) ≡ not (runs_on (not (is_nil h.fields)) l.content) = rw (e, m) refl in (
      (λ q. (k refl).0 (stops_of (not (is_nil h.fields)) l ls (sym test ∙ q))),
      (λ q. test ∙ of_stops (not (is_nil h.fields)) l ls ((k refl).1 q)),
    )

-- after a separator, or none
free_after : (fields : List TextLine) (o : Option TextLine) (new : Entity) → not (has_separator o) ≡ false → Continues fields o new
free_after fields None new h = true_false h
free_after fields (Some l) new h = tt

glued_after : (n : ℕ) (fields : List TextLine) (o : Option TextLine) (new : Entity) (ls : List TextLine) → Each (option_to_list o) → IsRun false fields → IsWellRead n false new → print new ≡ ls → not (has_separator o) ≡ true → (Stops (not (is_nil fields)) ls ↔ Continues fields o new)
glued_after n fields (Some l) new ls e r w q h = true_false (sym (separator_there l e.0) ∙ not_false (has_separator (Some l)) h)
glued_after n fields None new ls e r w q h = (
  (λ k. continues_of n false fields None new r (subst (Stops (not (is_nil fields))) (sym q) k) w),
  (λ c. subst (Stops (not (is_nil fields))) q (first_stops (not (is_nil fields)) (print new) (of_ends fields (take 1 (print new)) c.1).next)),
)

not_not : (t : Bool) → not (not t) ≡ t
not_not true = refl
not_not false = refl

message_told : (n m : ℕ) (d : Bool) (h : Head) (x new : Entity) (ls : List TextLine) → AreLines (print (message h x)) → IsWellRead m d (message h x) → IsWellRead n false new → print new ≡ ls → ((stays_after (message h x) ls ≡ true) ↔ Continues h.fields h.separator new)
message_told n m d h x new ls a v w q =
    let fields : AreLines h.fields = entity_fields (message h x) a in
    let line = each_back h.fields (option_to_list h.separator) (each_front (head_lines h) (print x) (each_line (print (message h x)) a)) in
    stays_message n h x new ls (ap not (nil_told h.fields fields) ∙ not_not (not (is_nil h.fields))) (not (has_separator h.separator)) refl (free_after h.fields h.separator new) (glued_after n h.fields h.separator new ls line v.0.run w q)

abbrev pair_frame : Frame × Entity → Option (Frame × Entity) → Frame
pair_frame d None = d.0
pair_frame d (Some q) = q.0

none_some : {A : Type 0} (q : Frame × Entity) → ◌≡◌ {A = Option (Frame × Entity)} None (Some q) → A
none_some q h = cc

pub one_frame : (k : ℕ) (h : Head) (x : Entity) (f : Frame) (s : Entity) → counted {X = Frame × Entity} k ((in_message h, x) ∷ []) ≡ Some (f, s) → in_message h ≡ f
one_frame zero h x f s e = none_some (f, s) e
one_frame (suc zero) h x f s e = ap (pair_frame (f, s)) e
one_frame (suc (suc k)) h x f s e = none_some (f, s) e

multi_frame : (h : Head) (b : List ℕ) (pre : List TextLine) (t : Option (TextLine × List TextLine)) (f : Frame) (s new : Entity) (o : Option (Parts × TextLine × Entity × Parts)) → option_map {U = Frame × Entity} (λ (q : Parts × TextLine × Entity × Parts). (in_multi h b pre q.0 q.1 q.3 t, q.2)) o ≡ Some (f, s) → FitsFrame f new
multi_frame h b pre t f s new None e = none_some (f, s) e
multi_frame h b pre t f s new (Some q) e = let same : in_multi h b pre q.0 q.1 q.3 t ≡ f = ap (pair_frame (f, s)) e in subst (λ g. FitsFrame g new) same tt

stays_multi : (h : Head) (b : List ℕ) (pre : List TextLine) (ps : Parts) (t : Option (TextLine × List TextLine)) (ls : List TextLine) → stays_after (multi h b pre ps t) ls ≡ true
stays_multi h b pre ps t [] = refl
stays_multi h b pre ps t (l ∷ ls) = refl

-- an entity in the place of one directly below another
frame_told : (n m k : ℕ) (d : Bool) (x s new : Entity) (f : Frame) (ls : List TextLine) → step_to k x ≡ Some (f, s) → AreLines (print x) → IsWellRead m d x → ((h : Head) → f ≡ in_message h → IsWellRead n false new) → print new ≡ ls → ((stays_after x ls ≡ true) ↔ FitsFrame f new)
frame_told n m k d (leaf h xs) s new f ls e a v w q = none_some (f, s) e
frame_told n m k d (message h x) s new f ls e a v w q =
    let same = one_frame k h x f s e in
    subst (λ g. (stays_after (message h x) ls ≡ true) ↔ FitsFrame g new) same (message_told n m d h x new ls a v (w h (sym same)) q)
frame_told n m k d (multi h b pre ps t) s new f ls e a v w q = ((λ j. multi_frame h b pre t f s new (part_at k ps) e), (λ j. stays_multi h b pre ps t ls))

-- where a section may stand
abbrev new_at : List Frame → List TextLine → Entity
new_at fs ls = read (left_at levels fs) (default_at false fs) ls

well_new : (n : ℕ) (d : Bool) (ls : List TextLine) → IsWellRead n d (read n d ls)
well_new n d ls = well_of n d (read n d ls) (ap (read n d) (print_read n d ls))

abbrev Fits : Option TextLine → List Frame → Entity → Type 0
Fits envelope fs new = FitsIn fs new × RootFits envelope fs new

message_last : (gs : List Frame) (d : Bool) (h : Head) → default_at d (gs ++ in_message h ∷ []) ≡ false
message_last [] d h = refl
message_last (in_message g ∷ gs) d h = message_last gs false h
message_last (in_multi g b pre before l after t ∷ gs) d h = message_last gs (digest_below d g) h

begins_told : (start : ℕ) (ls : List TextLine) → ((begins_well start ls ≡ true) ↔ ((start == 0) ≡ true → BeginsPlain ls))
begins_told start [] = ((λ h q. tt), (λ h. refl))
begins_told start (l ∷ ls) = (
  (λ h q. from_none (start == 0) (is_from_line l.content) h q),
  (λ h. none_from (start == 0) (is_from_line l.content) h),
)

-- another section there
pub stays_told : (text path : List ℕ) (p : Placed) (s : IsSite text path p) (ls : List TextLine) (o : Option Placed) → AroundIs text path (last_number path) s.around p.entity o
    → ((stays o p.start ls ≡ true) ↔ Fits (tree text).envelope s.around (new_at s.around ls))
stays_told text path p s ls None a =
    let envelope = (tree text).envelope in
    let new = new_at s.around ls in
    let printed_new : print new ≡ ls = print_read (left_at levels s.around) (default_at false s.around) ls in
    let start : p.start ≡ size (option_to_list envelope ++ lines_before []) = ap (λ (x : Placed). x.start) s.placed_is ∙ ap (λ fs. size (option_to_list envelope ++ lines_before fs)) a in
    let first : (p.start == 0) ≡ begins_root envelope [] = ap (λ n. n == 0) start ∙ first_is [] envelope [] refl (before_each text path p s).0 in
    let root = root_told envelope [] new in
    let begins = begins_told p.start ls in
    subst (λ fs. (begins_well p.start ls ≡ true) ↔ Fits envelope fs new) (sym a)
    ((λ h. (tt, root.0 (λ q. subst BeginsPlain (sym printed_new) (begins.0 h (first ∙ q))))), (λ f. begins.1 (λ q. subst BeginsPlain printed_new (root.1 f.1 (sym first ∙ q)))))
stays_told text path p s ls (Some q) a =
    let envelope = (tree text).envelope in
    let new = new_at s.around ls in
    let outer = site text (1 ∷ a.numbers) q a.found in
    let n = left_at levels s.around in
    let told =
    frame_told n (left_at levels outer.around) (last_number path) (default_at false outer.around) q.entity p.entity new a.frame ls a.step (entity_are text (1 ∷ a.numbers) q outer) outer.well
    (λ h e. subst (λ d. IsWellRead n d new) (ap (default_at false) (a.frames ∙ ap (λ f. a.around ++ f ∷ []) e) ∙ message_last a.around false h) (well_new n (default_at false s.around) ls))
    (print_read n (default_at false s.around) ls) in (
      (λ h. subst (λ fs. Fits envelope fs new) (sym a.frames) (fits_last a.around a.frame new (told.0 h), root_deep envelope a.around a.frame new)),
      (λ f. told.1 (last_fits a.around a.frame new (subst (λ fs. FitsIn fs new) a.frames f.0))),
    )

pub none_own : (o : Option ℕ) (level : ℕ) → o ≡ or_own o false level
none_own None level = refl
none_own (Some outer) level = refl

pub section_answers : (text path given : List ℕ) (p : Placed) → section_at path (tree text) ≡ Some p → AnswersAs (SetSection path given) text (section_answer text (after_first path) given (section_at (outer_path path) (tree text)) p) (edited (SetSection path given) (tree text))
section_answers text path given p h =
    let s = site text path p h in
    let e = SetSection path given in
    let ls = cut given in
    let new = new_at s.around ls in
    let plan = read_plan s.around ls in
    let envelope = (tree text).envelope in
    let numbers : after_first path ≡ s.numbers = ap after_first s.path_is in
    let planned_so = plan_here e text path p s refl in
    let law = locality_lem e (tree text) s.around p.entity plan (read_stable text) (place_found text path p s) planned_so in
    let told = stays_told text path p s ls (section_at (outer_path path) (tree text)) (around_told text path p s) in
    let old = text_of (print p.entity) in
    planned_answers e text plan (opens_at text p.start (length old) given) (hit_below ls 1 (after_first path) (root_of (tree text))) (stays (section_at (outer_path path) (tree text)) p.start ls)
    (record { place = p.start; count = length old; new = given }) old planned_so (splices_here e text path p s refl) refl
    (opens_here text path p s new [] (print p.entity) ls [] p.start (length old) given (sym (lines_end (print p.entity))) (print_read (left_at levels s.around) (default_at false s.around) ls ∙ sym (lines_end ls)) (lines_cut given)
    (sym (add-zero p.start)) refl (sym (text_cut given)))
    (ap (λ ks. hit_below ls 1 ks (root_of (tree text))) numbers ∙ (hit_here text path p s ls ∙ none_own (hit 1 s.around ls) (suc (length s.around))))
    (λ c u. fits_is (stays (section_at (outer_path path) (tree text)) p.start ls) (planned envelope plan) (IsLocal envelope plan (Unit {0})) law
    (λ k. let f = told.0 k in record { closed = c; unmarked = u; own = tt; outer = f.0; first = f.1 }) (λ l. told.1 (l.outer, l.first)))
    (λ k. record { numbers = s.numbers; around = s.around; section = p.entity; new = new; path_is = s.path_is; found = s.found; becomes = ap text_of (print_read (left_at levels s.around) (default_at false s.around) ls) ∙ text_cut given; result = refl; stable = k })
