-- Another body of a leaf: what is answered is what is defined.
use Rattle.std.proofs.Common.{◌≡◌, ◌+◌, ◌++◌, if◌then◌else◌, ℕ, suc, Bool, true, false, not, Option, None, Some, Ok, List, [], ◌∷◌, refl, ap, sym, ◌∙◌, subst, length, inl, inr, append_assoc}
use Rattle.std.proofs.lemmas.Bool.{cases_Bool}
use Rattle.mk_line.specs.declared.cutting.Ending.{Ending}
use Rattle.mk_line.specs.Lines.{TextLine, cut, text_of, ending_bytes, eol_of, is_open, AreLines, is_nil, text_line}
use Rattle.mk_line.proofs.Cuts.{text_cut, lines_cut, text_append, append_nil}
use Rattle.mk_head.specs.Split.{Head, head_lines}
use Rattle.std.specs.Option.{option_to_list}
use Rattle.mk_tree.specs.Tree.{Entity, leaf, message, multi, print, entity_head}
use Rattle.mk_tree.specs.Documents.{levels, tree}
use Rattle.mk_tree.specs.Spans.{size}
use Rattle.mk_tree.specs.Reading.{IsWellRead}
use Rattle.mk_tree.specs.Sections.{Placed, section_at, root_of, body_text, body_lines}
use Rattle.mk_tree.specs.Places.{left_at, default_at}
use Rattle.mk_tree.specs.Locality.{open_head, BeginsPlain, FitsIn, RootFits}
use Rattle.mk_tree.proofs.Plugs.{lines_end}
use Rattle.mk_tree.proofs.Stability.{read_stable}
use Rattle.mk_decide.specs.Edits.{SetBody, NotLeaf}
use Rattle.mk_decide.specs.EditSplices.{one_splice, made_separator}
use Rattle.std.specs.Prelude.{unwrap_or}
use Rattle.mk_decide.specs.Plans.{set_body, planned, plan_of}
use Rattle.mk_decide.proofs.PlanNames.{body_plan}
use Rattle.mk_decide.specs.Outcomes.{hit, edited}
use Rattle.mk_decide.specs.Local.{IsLocal}
use Rattle.mk_decide.specs.Around.{hit_below, glued_below}
use Rattle.mk_decide.specs.Looks.{has_separator}
use Rattle.mk_decide.specs.LocalAnswers.{after_first, opens_at}
use Rattle.mk_decide.specs.SectionAnswers.{separator_bytes, body_bytes, body_place, leaf_answer, body_answer, body_answer_of}
use Rattle.mk_decide.proofs.EveryEdit.{locality_lem, eol_closed}
use Rattle.mk_decide.proofs.Decisions.{AnswersAs, planned_answers, fits_is, unplanned}
use Rattle.mk_decide.proofs.AroundFrames.{frames_glued}
use Rattle.mk_decide.proofs.FieldFits.{before_each, after_are, glued_told}
use Rattle.mk_decide.proofs.HeadFits.{root_told, plain_some}
use Rattle.mk_decide.proofs.LocalLooks.{separator_there, fits_unglued, glued_head}
use Rattle.mk_decide.proofs.Openings.{Each, each_line, each_front}
use Rattle.mk_decide.proofs.PartChanges.{separator_line, separator_empty}
use Rattle.mk_decide.proofs.PartsLead.{separated}
use Rattle.mk_decide.proofs.SectionFits.{none_own}
use Rattle.mk_decide.proofs.SiteLines.{plan_here, splices_here, opens_here, hit_here}
use Rattle.mk_decide.proofs.PutSites.{place_found}
use Rattle.mk_decide.proofs.SectionSites.{IsSite, site}

regroup : (fields separator made ls : List TextLine) → (fields ++ (separator ++ made)) ++ ls ≡ (fields ++ separator) ++ (made ++ ls)
regroup fields separator made ls = simp append_assoc refl

true_false : {A : Type 0} → true ≡ false → A
true_false e = cc

-- the lines of a body, after a made separator or none
body_are : (eol : Ending) (o : Option TextLine) (given : List ℕ) → is_open eol ≡ false → AreLines (made_separator eol o ++ cut given)
body_are eol None given c = (separator_line eol None c tt, (λ m. true_false (ap is_open (sym m) ∙ c)), lines_cut given)
body_are eol (Some l) given c = lines_cut given

separator_text : (eol : Ending) (o : Option TextLine) → Each (option_to_list o) → (if has_separator o then [] else ending_bytes eol) ≡ text_of (made_separator eol o)
separator_text eol None e = sym (append_nil (ending_bytes eol))
separator_text eol (Some l) e = rw (separator_there l e.0) refl

body_lines_are : (eol : Ending) (h : Head) (ls : List TextLine) → (h.fields ++ (unwrap_or h.separator (text_line [] eol) ∷ [])) ++ ls ≡ head_lines h ++ ((made_separator eol h.separator ++ ls) ++ [])
body_lines_are eol h ls =
    let made = made_separator eol h.separator in
    ap (λ xs. (h.fields ++ xs) ++ ls) (separated eol h.separator) ∙ (regroup h.fields (option_to_list h.separator) made ls ∙ ap (λ xs. head_lines h ++ xs) (sym (lines_end (made ++ ls))))

pub not_glued : (t : Bool) → not t ≡ true → t ≡ false
not_glued true h = cc
not_glued false h = refl

pub some_open : (fields : List TextLine) (l : TextLine) → ◌≡◌ {A = Head} (record { fields = fields; separator = Some l }) (open_head []) → ⊥
some_open fields l e = let h : ◌≡◌ {A = Option TextLine} (Some l) None = ap (λ (x : Head). x.separator) e in cc

-- such a leaf may stand where no message without a separator is around
body_stays : (text path : List ℕ) (p : Placed) (s : IsSite text path p) (eol : Ending) (h : Head) (ls given : List TextLine) → p.entity ≡ leaf h ls → frames_glued false s.around ≡ false
    → FitsIn s.around (body_plan eol s.around h given).new × RootFits (tree text).envelope s.around (body_plan eol s.around h given).new
body_stays text path p s eol h ls given e g =
    let w : IsWellRead (left_at levels s.around) (default_at false s.around) (leaf h ls) = subst (IsWellRead (left_at levels s.around) (default_at false s.around)) e s.well in
    let new = (body_plan eol s.around h given).new in (
      fits_unglued false s.around new g,
      (root_told (tree text).envelope s.around new).0 (λ q. subst BeginsPlain (sym (append_assoc h.fields (unwrap_or h.separator (text_line [] eol) ∷ []) given)) (plain_some h.fields (unwrap_or h.separator (text_line [] eol)) given w.0.run (separator_empty eol (not (is_nil h.fields)) h.separator ls w.0.next))),
    )

body_unglued : (text path : List ℕ) (p : Placed) (s : IsSite text path p) (eol : Ending) (h : Head) (given : List TextLine) → FitsIn s.around (body_plan eol s.around h given).new → frames_glued false s.around ≡ false
body_unglued text path p s eol h given f =
    elim (cases_Bool (frames_glued false s.around)) [
      | inl g ↦ absurd (some_open h.fields (unwrap_or h.separator (text_line [] eol)) (glued_head s.around (body_plan eol s.around h given).new (before_each text path p s).1 g f))
      | inr g ↦ g
    ]

leaf_answers : (text path given : List ℕ) (p : Placed) (s : IsSite text path p) (h : Head) (ls : List TextLine) → p.entity ≡ leaf h ls → AnswersAs (SetBody path given) text (leaf_answer text (after_first path) given p) (edited (SetBody path given) (tree text))
leaf_answers text path given p s h ls x =
    let e = SetBody path given in
    let eol = eol_of (cut text) in
    let closed : is_open eol ≡ false = eol_closed (cut text) in
    let plan = body_plan eol s.around h (cut given) in
    let envelope = (tree text).envelope in
    let numbers : after_first path ≡ s.numbers = ap after_first s.path_is in
    let root = root_of (tree text) in
    let planned_so : plan_of e (tree text) ≡ Ok plan = plan_here e text path p s refl ∙ ap (λ y. set_body eol s.around y (cut given)) x in
    let law = locality_lem e (tree text) s.around p.entity plan (read_stable text) (place_found text path p s) planned_so in
    let glued : glued_below false (after_first path) root ≡ frames_glued false s.around = ap (λ ks. glued_below false ks root) numbers ∙ glued_told text path p s in
    let made = made_separator eol h.separator in
    let own : separator_bytes text p ≡ text_of (made_separator eol (entity_head p.entity).separator) =
    separator_text eol (entity_head p.entity).separator (each_front (option_to_list (entity_head p.entity).separator) (body_lines p.entity) (each_line (option_to_list (entity_head p.entity).separator ++ body_lines p.entity) (after_are text path p s))) in
    let bytes : body_bytes text p given ≡ text_of (made ++ cut given) = ap (λ t. t ++ given) (own ∙ ap (λ y. text_of (made_separator eol (entity_head y).separator)) x) ∙ (ap (λ t. text_of made ++ t) (sym (text_cut given)) ∙ sym (text_append made (cut given))) in
    let spliced_so = splices_here e text path p s refl ∙ ap (λ t. one_splice (body_place p) (body_text p) (t ++ given)) (sym own) in
    planned_answers e text plan (opens_at text (body_place p) (length (body_text p)) (body_bytes text p given)) (hit_below (cut given) 1 (after_first path) root) (not (glued_below false (after_first path) root))
    (record { place = body_place p; count = length (body_text p); new = body_bytes text p given }) (body_text p) planned_so spliced_so refl
    (opens_here text path p s plan.new (head_lines h) ls (made ++ cut given) [] (body_place p) (length (body_text p)) (body_bytes text p given) (ap print x ∙ ap (λ xs. head_lines h ++ xs) (sym (lines_end ls))) (body_lines_are eol h (cut given))
    (body_are eol h.separator given closed) (ap (λ y. p.start + size (head_lines (entity_head y))) x) (ap (λ y. size (body_lines y)) x) bytes)
    (ap (λ ks. hit_below (cut given) 1 ks root) numbers ∙ (hit_here text path p s (cut given) ∙ none_own (hit 1 s.around (cut given)) (suc (length s.around))))
    (λ c u. fits_is (not (glued_below false (after_first path) root)) (planned envelope plan) (IsLocal envelope plan (Unit {0})) law
    (λ k. let f = body_stays text path p s eol h ls (cut given) x (sym glued ∙ not_glued (glued_below false (after_first path) root) k) in record { closed = c; unmarked = u; own = tt; outer = f.0; first = f.1 })
    (λ l. ap not (glued ∙ body_unglued text path p s eol h (cut given) l.outer)))
    (λ k. record {
      numbers = s.numbers;
      around = s.around;
      section = p.entity;
      new = plan.new;
      path_is = s.path_is;
      found = s.found;
      becomes =
          ap text_of (body_lines_are eol h (cut given))
          ∙ (text_append (head_lines h) ((made ++ cut given) ++ [])
          ∙ ((λ i. text_of (head_lines (entity_head (sym x i))) ++ text_of (lines_end (made ++ cut given) i)) ∙ ap (λ t. text_of (head_lines (entity_head p.entity)) ++ t) (sym bytes)));
      result = refl;
      stable = k;
    })

body_by : (text path given : List ℕ) (p : Placed) (s : IsSite text path p) (x : Entity) → p.entity ≡ x → AnswersAs (SetBody path given) text (body_answer_of text (after_first path) given p x) (edited (SetBody path given) (tree text))
body_by text path given p s (leaf h ls) x = leaf_answers text path given p s h ls x
body_by text path given p s (message h e) x = unplanned (SetBody path given) text NotLeaf (plan_here (SetBody path given) text path p s refl ∙ ap (λ y. set_body (eol_of (cut text)) s.around y (cut given)) x)
body_by text path given p s (multi h b pre ps t) x = unplanned (SetBody path given) text NotLeaf (plan_here (SetBody path given) text path p s refl ∙ ap (λ y. set_body (eol_of (cut text)) s.around y (cut given)) x)

pub body_answers : (text path given : List ℕ) (p : Placed) → section_at path (tree text) ≡ Some p → AnswersAs (SetBody path given) text (body_answer text (after_first path) given p) (edited (SetBody path given) (tree text))
body_answers text path given p h = body_by text path given p (site text path p h) p.entity refl
