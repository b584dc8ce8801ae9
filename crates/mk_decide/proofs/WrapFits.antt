-- A section made the one part of a multipart: what is answered is what is defined.
use Rattle.std.proofs.Common.{◌≡◌, ◌↔◌, ◌-◌, ◌+◌, ◌++◌, if◌then◌else◌, ℕ, zero, suc, Bool, true, false, not, Some, Ok, Err, List, [], ◌∷◌, refl, ap, sym, ◌∙◌, subst, length, arith, inl, inr, append_assoc}
use Rattle.std.proofs.lemmas.Bool.{cases_Bool}
use Rattle.mk_line.specs.declared.cutting.Ending.{Ending}
use Rattle.mk_line.specs.Lines.{TextLine, text_line, cut, text_of, is_nil, eol_of, is_open}
use Rattle.mk_line.proofs.Cuts.{lines_following}
use Rattle.mk_head.specs.Boundaries.{is_boundary}
use Rattle.std.specs.Option.{option_to_list}
use Rattle.mk_head.specs.Values.{is_token}
use Rattle.mk_tree.specs.Tree.{print, entity_head, field_lines}
use Rattle.mk_tree.specs.Documents.{levels, tree, document_lines}
use Rattle.mk_tree.specs.Reading.{IsWellRead}
use Rattle.mk_tree.specs.Sections.{Placed, section_at, root_of, head_text, body_text, body_lines}
use Rattle.mk_tree.specs.Places.{below, left_at, default_at, lines_after}
use Rattle.mk_tree.specs.Locality.{BeginsPlain, FitsIn, RootFits}
use Rattle.mk_tree.proofs.Kept.{lines_kept}
use Rattle.mk_tree.proofs.Stability.{read_stable}
use Rattle.mk_decide.specs.Edits.{Wrap, BadBoundary, BadSubtype}
use Rattle.mk_decide.specs.EditSplices.{one_splice}
use Rattle.mk_line.specs.Marks.{delimiter_line, close_line}
use Rattle.mk_decide.specs.Wrapping.{other_fields, inner_part, made_lines, wrapped}
use Rattle.mk_decide.proofs.WrapNames.{outer_fields}
use Rattle.mk_decide.specs.Plans.{unless, wrap, planned, plan_of}
use Rattle.mk_decide.specs.Outcomes.{has_mark, hit, hit_level, edited}
use Rattle.mk_decide.specs.SectionAnswers.{or_own}
use Rattle.mk_decide.specs.Local.{WrapsWell, IsLocal}
use Rattle.mk_decide.specs.Around.{hit_below, glued_below}
use Rattle.mk_decide.specs.LocalAnswers.{after_first}
use Rattle.mk_decide.specs.WrapAnswers.{made_bytes, other_part, wrap_bytes, wrap_opens, may_end, makes_digest, fits_below, wrap_fits, wrap_in, wrap_answer}
use Rattle.mk_decide.proofs.EveryEdit.{locality_lem, eol_closed}
use Rattle.mk_decide.proofs.Decisions.{AnswersAs, planned_answers, fits_is, unplanned}
use Rattle.mk_decide.proofs.AroundFrames.{frames_glued}
use Rattle.mk_decide.proofs.BodyFits.{some_open}
use Rattle.mk_decide.proofs.FieldChanges.{run_read}
use Rattle.mk_decide.proofs.FieldFits.{entity_are, before_each, after_are, body_cut, glued_told, fits_parts, parts_fit}
use Rattle.mk_decide.proofs.HeadFits.{root_told, plain_some}
use Rattle.mk_decide.proofs.LocalLooks.{fits_unglued, glued_head}
use Rattle.mk_decide.proofs.PutSites.{place_found}
use Rattle.mk_decide.proofs.SectionSites.{IsSite, site}
use Rattle.mk_decide.proofs.SiteFacts.{as_long, left_is, level_is, own_fields, entity_fields}
use Rattle.mk_decide.proofs.SiteLines.{plan_here, splices_here, hit_here}
use Rattle.mk_decide.proofs.Typed.{MayBound, may_bound}
use Rattle.mk_decide.proofs.WrapFields.{content_kind}
use Rattle.mk_decide.proofs.WrapLooks.{StaysBelow, below_told, end_told}
use Rattle.mk_decide.proofs.WrapOpens.{opens_told}
use Rattle.mk_decide.proofs.WrapTexts.{bytes_told, made_told}
use Rattle.mk_decide.proofs.Wraps.{outer_run}

-- the multipart may stand where no message without a separator is around: it has a separator, and begins with a field or
-- with the separator
wrapped_lines : (outer inner : List TextLine) (e d c : TextLine) → outer ++ (e ∷ (d ∷ ((inner ++ []) ++ (c ∷ [])))) ≡ (outer ++ (e ∷ [])) ++ (d ∷ ((inner ++ []) ++ (c ∷ [])))
wrapped_lines outer inner e d c = sym (append_assoc outer (e ∷ []) (d ∷ ((inner ++ []) ++ (c ∷ []))))

wrap_root : (text path : List ℕ) (p : Placed) (s : IsSite text path p) (eol : Ending) (subtype b : List ℕ) → RootFits (tree text).envelope s.around (wrapped eol s.around p.entity subtype b)
wrap_root text path p s eol subtype b =
    let fs = s.around in
    let outer = outer_fields eol s.around (other_fields false (field_lines p.entity)) subtype b in
    let inner = print (inner_part eol s.around p.entity) in
    let run = outer_run eol fs (field_lines p.entity) subtype b (run_read (left_at levels fs) (default_at false fs) p.entity s.well) in
    (root_told (tree text).envelope fs (wrapped eol fs p.entity subtype b)).0
    (λ q. subst BeginsPlain (wrapped_lines outer inner (text_line [] eol) (delimiter_line eol b) (close_line eol b)) (plain_some outer (text_line [] eol) (delimiter_line eol b ∷ ((inner ++ []) ++ (close_line eol b ∷ []))) run refl))

wrap_unglued : (text path : List ℕ) (p : Placed) (s : IsSite text path p) (eol : Ending) (subtype b : List ℕ) → FitsIn s.around (wrapped eol s.around p.entity subtype b) → frames_glued false s.around ≡ false
wrap_unglued text path p s eol subtype b f =
    elim (cases_Bool (frames_glued false s.around)) [
      | inl g ↦ absurd (some_open (outer_fields eol s.around (other_fields false (field_lines p.entity)) subtype b) (text_line [] eol) (glued_head s.around (wrapped eol s.around p.entity subtype b) (before_each text path p s).1 g f))
      | inr g ↦ g
    ]

-- the levels below
below_is : (n k : ℕ) → n ≡ 100 - k → 100 - (k + 1) ≡ below n
below_is zero k e = omega (arith, e)
below_is (suc n) k e = omega (arith, e)

abbrev WrapsAt : (text path : List ℕ) (p : Placed) → IsSite text path p → Ending → List ℕ → Type 0
WrapsAt text path p s eol subtype = WrapsWell (left_at levels s.around) (default_at false s.around) eol s.around p.entity subtype

below_here : (text path : List ℕ) (p : Placed) (s : IsSite text path p) (g : Bool) → ((fits_below (length s.numbers + 1) g p ≡ true) ↔ StaysBelow (left_at levels s.around) (default_at false s.around) g p.entity)
below_here text path p s g =
    let n = left_at levels s.around in
    let d = default_at false s.around in
    let e = p.entity in
    let long = as_long s.numbers (tree text).root s.around p.entity s.found in
    let same : p.digest ≡ default_at false s.around = ap (λ (x : Placed). x.digest) s.placed_is in
    let less : levels - (length s.numbers + 1) ≡ below (left_at levels s.around) = below_is n (length s.numbers) (left_is levels s.around ∙ ap (λ k. 100 - k) long) in
    subst (λ x. (fits_below (length s.numbers + 1) g p ≡ true) ↔ StaysBelow n x g e) same
    (below_told n (length s.numbers + 1) p.start p.followed p.digest g e (level_is s.numbers s.around long) less (subst (λ x. IsWellRead n x e) (sym same) s.well)
    (own_fields (field_lines e) (entity_fields e (entity_are text path p s)) (run_read n d e s.well)))

wraps_told : (text path : List ℕ) (p : Placed) (s : IsSite text path p) (eol : Ending) (subtype b : List ℕ) → is_open eol ≡ false
    → ((wrap_fits (tree text) eol s.numbers subtype p ≡ true) ↔ (WrapsAt text path p s eol subtype × FitsIn s.around (wrapped eol s.around p.entity subtype b) × RootFits (tree text).envelope s.around (wrapped eol s.around p.entity subtype b)))
wraps_told text path p s eol subtype b c =
    let n = left_at levels s.around in
    let g = makes_digest subtype in
    let e = p.entity in
    let glue = glued_below false s.numbers (root_of (tree text)) in
    let glued = glued_told text path p s in
    let same : not (is_nil (lines_after s.around)) ≡ p.followed = sym (ap (λ (x : Placed). x.followed) s.placed_is) in
    let end = end_told eol s.around e p.followed c (lines_following (option_to_list (entity_head e).separator) (body_lines e) (after_are text path p s)) same in
    let lower = below_here text path p s g in
    let content = content_kind (below n) (field_lines e) g in (
      (λ k.
          let r = fits_parts glue (may_end eol p) (fits_below (length s.numbers + 1) g p) k in
          let y = lower.0 r.2 in (
            record { level = y.0; depth = y.1; kind = content ∙ y.2; ends = end.0 r.1 },
            fits_unglued false s.around (wrapped eol s.around e subtype b) (sym glued ∙ r.0),
            wrap_root text path p s eol subtype b,
          )),
      (λ w.
          parts_fit glue (may_end eol p) (fits_below (length s.numbers + 1) g p) (glued ∙ wrap_unglued text path p s eol subtype b w.1) (end.1 w.0.ends)
          (lower.1 (w.0.level, w.0.depth, sym content ∙ w.0.kind))),
    )

-- the multiparts that are hit
one_more : (n m : ℕ) → m ≡ n → n + 1 ≡ suc m
one_more n m e = omega (arith, e)

hits_told : (text path : List ℕ) (p : Placed) (s : IsSite text path p) (eol : Ending) (subtype b : List ℕ) → is_open eol ≡ false → is_token subtype ≡ true → MayBound b
    → or_own (hit_below (cut (made_bytes eol (is_nil s.numbers) (other_part (head_text p)) subtype b)) 1 s.numbers (root_of (tree text))) (has_mark b (cut (body_text p))) (length s.numbers + 1) ≡ hit_level (wrap eol s.around p.entity subtype b)
hits_told text path p s eol subtype b c h k =
    let made = made_lines eol s.around (other_fields false (field_lines p.entity)) subtype b in
    let own = has_mark b (cut (body_text p)) in
    let level = length s.numbers + 1 in
    ap (λ ls. or_own (hit_below ls 1 s.numbers (root_of (tree text))) own level) (made_told text path p s eol subtype b c h k)
    ∙ (ap (λ o. or_own o own level) (hit_here text path p s made)
    ∙ (ap (λ ls. or_own (hit 1 s.around made) (has_mark b ls) level) (body_cut text path p s)
    ∙ ap (or_own (hit 1 s.around made) (has_mark b (body_lines p.entity))) (one_more (length s.numbers) (length s.around) (as_long s.numbers (tree text).root s.around p.entity s.found))))

-- the answer of a wrap that is planned
wrap_planned : (text path subtype b : List ℕ) (p : Placed) (s : IsSite text path p) → is_boundary b ≡ true → is_token subtype ≡ true → plan_of (Wrap path subtype b) (tree text) ≡ Ok (wrap (eol_of (cut text)) s.around p.entity subtype b)
wrap_planned text path subtype b p s k h =
    let plan = wrap (eol_of (cut text)) s.around p.entity subtype b in
    plan_here (Wrap path subtype b) text path p s refl
    ∙ (ap (λ t. unless (not t) BadBoundary (unless (not (is_token subtype)) BadSubtype (Ok plan))) k ∙ ap (λ t. unless (not t) BadSubtype (Ok plan)) h)

wrap_there : (text path subtype b : List ℕ) (p : Placed) (s : IsSite text path p) → is_boundary b ≡ true → is_token subtype ≡ true → AnswersAs (Wrap path subtype b) text (wrap_in text s.numbers subtype b p) (edited (Wrap path subtype b) (tree text))
wrap_there text path subtype b p s k h =
    let e = Wrap path subtype b in
    let eol = eol_of (cut text) in
    let closed : is_open (eol_of (cut text)) ≡ false = eol_closed (cut text) in
    let plan = wrap (eol_of (cut text)) s.around p.entity subtype b in
    let envelope = (tree text).envelope in
    let n = left_at levels s.around in
    let d = default_at false s.around in
    let planned_so = wrap_planned text path subtype b p s k h in
    let law = locality_lem e (tree text) s.around p.entity plan (read_stable text) (place_found text path p s) planned_so in
    let told = wraps_told text path p s eol subtype b closed in
    let old = text_of (print p.entity) in
    let fits = wrap_fits (tree text) eol s.numbers subtype p in
    planned_answers e text plan (wrap_opens text p)
    (or_own (hit_below (cut (made_bytes eol (is_nil s.numbers) (other_part (head_text p)) subtype b)) 1 s.numbers (root_of (tree text))) (has_mark b (cut (body_text p))) (length s.numbers + 1)) fits
    (record { place = p.start; count = length old; new = wrap_bytes eol (is_nil s.numbers) p subtype b }) old planned_so
    (splices_here e text path p s refl ∙ ap (one_splice p.start old) (sym (bytes_told text path p s eol subtype b))) refl
    (opens_told text path p s eol subtype b closed)
    (hits_told text path p s eol subtype b closed h (may_bound b k))
    (λ c u. fits_is fits (planned envelope plan) (IsLocal envelope plan (WrapsWell n d (eol_of (document_lines (tree text))) s.around p.entity subtype)) law
    (λ x. let f = told.0 x in record { closed = c; unmarked = u; own = subst (λ ls. WrapsWell n d (eol_of ls) s.around p.entity subtype) (sym (lines_kept text)) f.0; outer = f.1; first = f.2 })
    (λ l. told.1 (subst (λ ls. WrapsWell n d (eol_of ls) s.around p.entity subtype) (lines_kept text) l.own, l.outer, l.first)))
    (λ x. record { numbers = s.numbers; around = s.around; section = p.entity; new = plan.new; path_is = s.path_is; found = s.found; becomes = sym (bytes_told text path p s eol subtype b); result = refl; stable = x })

-- the answer at a section
bad_boundary : (text path subtype b : List ℕ) (p : Placed) (s : IsSite text path p) → is_boundary b ≡ false → plan_of (Wrap path subtype b) (tree text) ≡ Err BadBoundary
bad_boundary text path subtype b p s k =
    plan_here (Wrap path subtype b) text path p s refl ∙ ap (λ t. unless (not t) BadBoundary (unless (not (is_token subtype)) BadSubtype (Ok (wrap (eol_of (cut text)) s.around p.entity subtype b)))) k

bad_subtype : (text path subtype b : List ℕ) (p : Placed) (s : IsSite text path p) → is_boundary b ≡ true → is_token subtype ≡ false → plan_of (Wrap path subtype b) (tree text) ≡ Err BadSubtype
bad_subtype text path subtype b p s k h =
    let plan = wrap (eol_of (cut text)) s.around p.entity subtype b in
    plan_here (Wrap path subtype b) text path p s refl
    ∙ (ap (λ t. unless (not t) BadBoundary (unless (not (is_token subtype)) BadSubtype (Ok plan))) k ∙ ap (λ t. unless (not t) BadSubtype (Ok plan)) h)

pub told_boundary : (text numbers subtype b : List ℕ) (p : Placed) → is_boundary b ≡ false → wrap_answer text numbers subtype b p ≡ Err BadBoundary
told_boundary text numbers subtype b p k = ap (λ t. if not t then Err BadBoundary else (if not (is_token subtype) then Err BadSubtype else wrap_in text numbers subtype b p)) k

pub told_subtype : (text numbers subtype b : List ℕ) (p : Placed) → is_boundary b ≡ true → is_token subtype ≡ false → wrap_answer text numbers subtype b p ≡ Err BadSubtype
told_subtype text numbers subtype b p k h =
    ap (λ t. if not t then Err BadBoundary else (if not (is_token subtype) then Err BadSubtype else wrap_in text numbers subtype b p)) k ∙ ap (λ t. if not t then Err BadSubtype else wrap_in text numbers subtype b p) h

pub told_in : (text numbers subtype b : List ℕ) (p : Placed) → is_boundary b ≡ true → is_token subtype ≡ true → wrap_answer text numbers subtype b p ≡ wrap_in text numbers subtype b p
told_in text numbers subtype b p k h =
    ap (λ t. if not t then Err BadBoundary else (if not (is_token subtype) then Err BadSubtype else wrap_in text numbers subtype b p)) k ∙ ap (λ t. if not t then Err BadSubtype else wrap_in text numbers subtype b p) h

pub wrap_answers : (text path subtype b : List ℕ) (p : Placed) → section_at path (tree text) ≡ Some p → AnswersAs (Wrap path subtype b) text (wrap_answer text (after_first path) subtype b p) (edited (Wrap path subtype b) (tree text))
wrap_answers text path subtype b p q =
    let s = site text path p q in
    let e = Wrap path subtype b in
    let numbers : after_first path ≡ s.numbers = ap after_first s.path_is in
    elim (cases_Bool (is_boundary b)) [
      | inl k ↦
          elim (cases_Bool (is_token subtype)) [
            | inl h ↦ subst (λ a. AnswersAs e text a (edited e (tree text))) (sym (told_in text (after_first path) subtype b p k h ∙ ap (λ ks. wrap_in text ks subtype b p) numbers)) (wrap_there text path subtype b p s k h)
            | inr h ↦ subst (λ a. AnswersAs e text a (edited e (tree text))) (sym (told_subtype text (after_first path) subtype b p k h)) (unplanned e text BadSubtype (bad_subtype text path subtype b p s k h))
          ]
      | inr k ↦ subst (λ a. AnswersAs e text a (edited e (tree text))) (sym (told_boundary text (after_first path) subtype b p k)) (unplanned e text BadBoundary (bad_boundary text path subtype b p s k))
    ]
