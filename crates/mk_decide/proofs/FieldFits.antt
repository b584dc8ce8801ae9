-- The look at a section and at what stands around it tells whether it is read back with lines put among its fields.
use Rattle.std.proofs.Common.{◌≡◌, ◌↔◌, ◌&&◌, ◌||◌, ◌+◌, ◌<◌, ◌++◌, if◌then◌else◌, ℕ, Bool, true, false, not, None, Ok, List, [], ◌∷◌, refl, ap, sym, ◌∙◌, subst, length, arith, inl, inr}
use Rattle.std.proofs.lemmas.Bool.{cases_Bool, or_parts}
use Rattle.mk_line.specs.Lines.{TextLine, cut, text_of, is_nil, AreLines}
use Rattle.mk_line.proofs.Cuts.{cut_text, lines_cut, lines_following}
use Rattle.std.specs.Option.{option_to_list}
use Rattle.mk_head.specs.Splits.{IsRun, IsSplit}
use Rattle.mk_tree.specs.Kinds.{kind_at, is_digest}
use Rattle.mk_tree.specs.Tree.{Entity, leaf, message, multi, print, field_lines, entity_head, with_fields}
use Rattle.mk_tree.specs.Documents.{IsStable, levels, tree, document_lines}
use Rattle.mk_tree.specs.Reading.{IsWellRead}
use Rattle.mk_tree.specs.Spans.{size}
use Rattle.mk_splice.specs.Splices.{spliced}
use Rattle.mk_tree.specs.Sections.{Placed, root_of, head_text, body_text, body_lines}
use Rattle.mk_tree.specs.Locality.{BeginsPlain, FitsIn, RootFits}
use Rattle.mk_tree.specs.Places.{below, left_at, default_at, lines_before, lines_after}
use Rattle.mk_tree.proofs.HeadChanged.{after_fields, entity_lines, changed_lines, apart}
use Rattle.mk_tree.proofs.Kept.{lines_kept}
use Rattle.mk_tree.proofs.Plugs.{print_plug, fits_in_of}
use Rattle.mk_tree.proofs.Stability.{read_stable}
use Rattle.mk_tree.proofs.FieldsChanged.{stable_well}
use Rattle.mk_decide.specs.declared.field_edits.FieldEdit.{FieldEdit}
use Rattle.mk_decide.specs.Reasons.{is_open_early}
use Rattle.mk_decide.specs.Plans.{planned}
use Rattle.mk_decide.specs.Outcomes.{hit_level}
use Rattle.mk_decide.specs.Local.{IsAlike, AreKept, parts_of, AreFieldsFor, IsLocal}
use Rattle.mk_decide.proofs.PlanNames.{HeaderEnds}
use Rattle.mk_decide.specs.FieldPuts.{LinePut, puts}
use Rattle.mk_decide.specs.Looks.{ends_there}
use Rattle.mk_decide.specs.KindsKept.{fields_in, keeps_kinds}
use Rattle.mk_decide.specs.Around.{glued_below}
use Rattle.mk_decide.specs.LocalAnswers.{is_first, fits_at}
use Rattle.mk_decide.proofs.Openings.{Each, each_line, each_front, each_back, last_open, early_join, are_lines, lines_front, some_text}
use Rattle.mk_decide.proofs.FieldChanges.{fields_same, fields_each, run_read}
use Rattle.mk_decide.proofs.AroundFrames.{frames_glued, glued_is}
use Rattle.mk_decide.proofs.LocalLooks.{fits_unglued, glued_bare}
use Rattle.mk_decide.proofs.KindsTold.{kinds_told}
use Rattle.mk_decide.proofs.PutPlans.{lines_put, put_plan}
use Rattle.mk_decide.proofs.FieldPutFacts.{IsLinePut, Puts, puts_is}
use Rattle.mk_decide.proofs.SectionSites.{IsSite, head_cut}
use Rattle.mk_decide.proofs.PutNew.{OfPut, NewOf, IsSome, given_lines, puts_new, some_new, put_text}
use Rattle.mk_decide.proofs.SiteFacts.{as_long, level_is, own_fields, parts_read}
use Rattle.mk_decide.proofs.HeadFits.{head_told, begins_root, root_told, first_is}

-- what an edit puts at a section
abbrev pub IsPutAt : FieldEdit → Placed → LinePut → Type 0
IsPutAt edit p q = puts edit (cut (head_text p)) ≡ Ok q

pub line_put : (edit : FieldEdit) (p : Placed) (q : LinePut) → IsPutAt edit p q → IsLinePut (cut (head_text p)) q
line_put edit p q h = subst (Puts (cut (head_text p))) h (puts_is edit (cut (head_text p)))

pub given_put : (edit : FieldEdit) (p : Placed) (q : LinePut) → IsPutAt edit p q → AreLines q.given
given_put edit p q h = subst (OfPut (λ x. AreLines x.given)) h (given_lines edit (cut (head_text p)) (each_line (cut (head_text p)) (lines_cut (head_text p))))

new_put : (text path : List ℕ) (edit : FieldEdit) (p : Placed) (s : IsSite text path p) (q : LinePut) → IsPutAt edit p q → NewOf p.entity q
new_put text path edit p s q h = subst (OfPut (NewOf p.entity)) (sym (ap (puts edit) (head_cut text path p s)) ∙ h) (puts_new edit p.entity)

some_put : (text path : List ℕ) (edit : FieldEdit) (p : Placed) (s : IsSite text path p) (q : LinePut) → IsPutAt edit p q → field_lines p.entity ≡ [] → IsSome q
some_put text path edit p s q h n = subst (OfPut IsSome) (sym (ap (puts edit) (head_cut text path p s ∙ n)) ∙ h) (some_new edit)

-- the lines of the document, and those of the section
all_lines : (text path : List ℕ) (p : Placed) (s : IsSite text path p) → AreLines (option_to_list (tree text).envelope ++ (lines_before s.around ++ (print p.entity ++ lines_after s.around)))
all_lines text path p s =
    subst AreLines (sym (lines_kept text) ∙ (ap document_lines (sym s.whole) ∙ ap (λ ls. option_to_list (tree text).envelope ++ ls) (print_plug s.around p.entity))) (lines_cut text)

pub entity_are : (text path : List ℕ) (p : Placed) (s : IsSite text path p) → AreLines (print p.entity)
entity_are text path p s =
    lines_front (print p.entity) (lines_after s.around)
    (lines_following (lines_before s.around) (print p.entity ++ lines_after s.around) (lines_following (option_to_list (tree text).envelope) (lines_before s.around ++ (print p.entity ++ lines_after s.around)) (all_lines text path p s)))

pub before_each : (text path : List ℕ) (p : Placed) (s : IsSite text path p) → Each (option_to_list (tree text).envelope) × Each (lines_before s.around)
before_each text path p s =
    let front = option_to_list (tree text).envelope in
    let following = lines_before s.around ++ (print p.entity ++ lines_after s.around) in
    let each = each_line (front ++ following) (all_lines text path p s) in
    (each_front front following each, each_front (lines_before s.around) (print p.entity ++ lines_after s.around) (each_back front following each))

pub after_are : (text path : List ℕ) (p : Placed) (s : IsSite text path p) → AreLines (option_to_list (entity_head p.entity).separator ++ body_lines p.entity)
after_are text path p s = lines_following (field_lines p.entity) (after_fields p.entity) (subst AreLines (entity_lines p.entity) (entity_are text path p s))

pub body_cut : (text path : List ℕ) (p : Placed) (s : IsSite text path p) → cut (body_text p) ≡ body_lines p.entity
body_cut text path p s = cut_text (body_lines p.entity) (lines_following (option_to_list (entity_head p.entity).separator) (body_lines p.entity) (after_are text path p s))

-- where no line opens early, the new fields are lines
pub early_middle : (xs ys zs : List TextLine) → is_open_early (xs ++ (ys ++ zs)) ≡ false → is_open_early ys ≡ false
early_middle xs ys zs h =
    let a = or_parts (is_open_early xs) ((last_open xs && not (is_nil (ys ++ zs))) || is_open_early (ys ++ zs)) (sym (early_join xs (ys ++ zs)) ∙ h) in
    let b = or_parts (last_open xs && not (is_nil (ys ++ zs))) (is_open_early (ys ++ zs)) a.1 in
    (or_parts (is_open_early ys) ((last_open ys && not (is_nil zs)) || is_open_early zs) (sym (early_join ys zs) ∙ b.1)).0

abbrev pub IsClosed : (text path : List ℕ) (p : Placed) → IsSite text path p → LinePut → Type 0
IsClosed text path p s q = is_open_early (document_lines (planned (tree text).envelope (put_plan s.around p.entity q))) ≡ false

pub put_are : (text path : List ℕ) (edit : FieldEdit) (p : Placed) (s : IsSite text path p) (q : LinePut) → IsPutAt edit p q → IsClosed text path p s q → AreLines (lines_put q)
put_are text path edit p s q h c =
    let fields = lines_put q in
    let t = tree text in
    are_lines fields ((new_put text path edit p s q h).lines (fields_each p.entity (each_line (print p.entity) (entity_are text path p s))))
    (early_middle (option_to_list t.envelope ++ lines_before s.around) fields (after_fields p.entity ++ lines_after s.around)
    (ap is_open_early (sym (apart t.envelope s.around (with_fields fields p.entity) fields (after_fields p.entity) (changed_lines fields p.entity))) ∙ c))

put_run : (text path : List ℕ) (edit : FieldEdit) (p : Placed) (s : IsSite text path p) (q : LinePut) → IsPutAt edit p q → IsRun false (lines_put q)
put_run text path edit p s q h = (new_put text path edit p s q h).run (run_read (left_at levels s.around) (default_at false s.around) p.entity s.well)

-- the changed head
abbrev pub put_head : Placed → LinePut → List ℕ
put_head p q = spliced (size q.before) (size q.old) (text_of q.given) (head_text p)

head_is : (text path : List ℕ) (edit : FieldEdit) (p : Placed) (s : IsSite text path p) (q : LinePut) → IsPutAt edit p q → put_head p q ≡ text_of (lines_put q)
head_is text path edit p s q h = put_text (head_text p) q (ap text_of (sym ((line_put edit p q h).whole ∙ head_cut text path p s)))

-- its fields
pub fields_put : (text path : List ℕ) (edit : FieldEdit) (p : Placed) (s : IsSite text path p) (q : LinePut) → IsPutAt edit p q → IsClosed text path p s q → fields_in (put_head p q) ≡ lines_put q
fields_put text path edit p s q h c = ap fields_in (head_is text path edit p s q h) ∙ own_fields (lines_put q) (put_are text path edit p s q h c) (put_run text path edit p s q h)

pub no_text : (bytes : List ℕ) → 0 < length bytes → is_nil bytes ≡ false
no_text [] h = let none : 0 < 0 = h in absurd (omega arith)
no_text (b ∷ bs) h = refl

pub nil_told : (fields : List TextLine) → AreLines fields → is_nil (text_of fields) ≡ not (not (is_nil fields))
nil_told [] a = refl
nil_told (l ∷ ls) a = no_text (text_of (l ∷ ls)) (some_text l ls a.0)

-- the head of an entity that is read back
pub split_of : (n : ℕ) (d : Bool) (e : Entity) → IsWellRead n d e → IsSplit (entity_head e) (body_lines e)
split_of n d (leaf h ls) w = w.0
split_of n d (message h e) w = w.0
split_of n d (multi h b pre ps t) w = w.0

-- the three looks
pub fits_parts : (g e k : Bool) → (if g then false else (if e then k else false)) ≡ true → (g ≡ false) × (e ≡ true) × (k ≡ true)
fits_parts true e k h = cc
fits_parts false true k h = (refl, refl, h)
fits_parts false false k h = cc

pub parts_fit : (g e k : Bool) → g ≡ false → e ≡ true → k ≡ true → (if g then false else (if e then k else false)) ≡ true
parts_fit g e k a b c = rw (a, b, c) refl

abbrev pub KindsStay : ℕ → Bool → List TextLine → Entity → Type 0
KindsStay n d fields e = IsAlike (kind_at n (field_lines e) d) (kind_at n fields d) × AreKept (below n) (is_digest (kind_at n (field_lines e) d)) (is_digest (kind_at n fields d)) (parts_of e)

pub kinds_stay : (text path : List ℕ) (edit : FieldEdit) (p : Placed) (s : IsSite text path p) (q : LinePut) → IsPutAt edit p q → IsClosed text path p s q
    → ((keeps_kinds (length s.numbers + 1) (put_head p q) p ≡ true) ↔ KindsStay (left_at levels s.around) (default_at false s.around) (lines_put q) p.entity)
kinds_stay text path edit p s q h c =
    let n = left_at levels s.around in
    let d = default_at false s.around in
    let same : p.digest ≡ d = ap (λ (x : Placed). x.digest) s.placed_is in
    subst (λ g. (keeps_kinds (length s.numbers + 1) (put_head p q) p ≡ true) ↔ KindsStay n g (lines_put q) p.entity) same
    (kinds_told n (length s.numbers + 1) p.start p.followed p.digest (put_head p q) (lines_put q) p.entity (level_is s.numbers s.around (as_long s.numbers (tree text).root s.around p.entity s.found))
    (subst (λ g. IsWellRead n g p.entity) (sym same) s.well) (parts_read n d p.entity (entity_are text path p s) s.well)
    (fields_put text path edit p s q h c))

abbrev pub look_there : (text path : List ℕ) (p : Placed) → IsSite text path p → LinePut → Bool
look_there text path p s q = ends_there (is_nil (put_head p q)) (is_first s.numbers p.start) (entity_head p.entity).separator (cut (body_text p))

look_is : (text path : List ℕ) (edit : FieldEdit) (p : Placed) (s : IsSite text path p) (q : LinePut) → IsPutAt edit p q → IsClosed text path p s q
    → look_there text path p s q ≡ ends_there (not (not (is_nil (lines_put q)))) (begins_root (tree text).envelope s.around) (entity_head p.entity).separator (body_lines p.entity)
look_is text path edit p s q h c =
    let separator = (entity_head p.entity).separator in
    let first = is_first s.numbers p.start in
    ap (λ x. ends_there x first separator (cut (body_text p))) (ap is_nil (head_is text path edit p s q h) ∙ nil_told (lines_put q) (put_are text path edit p s q h c))
    ∙ (ap (λ x. ends_there (not (not (is_nil (lines_put q)))) x separator (cut (body_text p)))
    (ap (λ (x : Placed). is_first s.numbers x.start) s.placed_is ∙ first_is s.numbers (tree text).envelope s.around (as_long s.numbers (tree text).root s.around p.entity s.found) (before_each text path p s).0)
    ∙ ap (ends_there (not (not (is_nil (lines_put q)))) (begins_root (tree text).envelope s.around) separator) (body_cut text path p s))

ends_stay : (text path : List ℕ) (edit : FieldEdit) (p : Placed) (s : IsSite text path p) (q : LinePut) → IsPutAt edit p q → IsClosed text path p s q
    → ((look_there text path p s q ≡ true) ↔ (HeaderEnds (lines_put q) (entity_head p.entity).separator (body_lines p.entity) × RootFits (tree text).envelope s.around (with_fields (lines_put q) p.entity)))
ends_stay text path edit p s q h c =
    let e = p.entity in
    let fields = lines_put q in
    let envelope = (tree text).envelope in
    let separator = (entity_head e).separator in
    let told =
    head_told fields separator (body_lines e) (begins_root envelope s.around) (not (is_nil (field_lines e))) (put_run text path edit p s q h) (split_of (left_at levels s.around) (default_at false s.around) e s.well).next
    (each_front (option_to_list separator) (body_lines e) (each_line (option_to_list separator ++ body_lines e) (after_are text path p s))) in
    let root = root_told envelope s.around (with_fields fields e) in
    let same = look_is text path edit p s q h c in (
      (λ k. let r = told.0 (sym same ∙ k) in (r.0, root.0 (λ x. subst BeginsPlain (sym (changed_lines fields e)) (r.1 x)))),
      (λ k. same ∙ told.1 (k.0, λ x. subst BeginsPlain (changed_lines fields e) (root.1 k.1 x))),
    )

-- a section directly after a message's fields has none, before an edit or after it
glued_none : (text path : List ℕ) (edit : FieldEdit) (p : Placed) (s : IsSite text path p) (q : LinePut) → IsPutAt edit p q → FitsIn s.around (with_fields (lines_put q) p.entity) → frames_glued false s.around ≡ false
glued_none text path edit p s q h f =
    let e = p.entity in
    let before = (before_each text path p s).1 in
    elim (cases_Bool (frames_glued false s.around)) [
      | inl g ↦
          let old : FitsIn s.around e = fits_in_of levels false s.around e (stable_well (tree text).envelope s.around e (subst IsStable (sym s.whole) (read_stable text))) in
          let none : field_lines e ≡ [] = glued_bare s.around e before g old in
          let new : lines_put q ≡ [] = sym (fields_same (lines_put q) e) ∙ glued_bare s.around (with_fields (lines_put q) e) before g f in
          absurd (some_put text path edit p s q h none new)
      | inr g ↦ g
    ]

pub glued_told : (text path : List ℕ) (p : Placed) (s : IsSite text path p) → glued_below false s.numbers (root_of (tree text)) ≡ frames_glued false s.around
glued_told text path p s = glued_is false s.numbers (root_of (tree text)) s.around p.entity s.found

-- what an edit of fields asks of its section
abbrev pub FieldsLocal : (text path : List ℕ) (p : Placed) → IsSite text path p → LinePut → Type 0
FieldsLocal text path p s q =
    let plan = put_plan s.around p.entity q in
    IsLocal (tree text).envelope plan (AreFieldsFor (left_at levels s.around) (default_at false s.around) (field_lines plan.new) p.entity)

pub fits_told : (text path : List ℕ) (edit : FieldEdit) (p : Placed) (s : IsSite text path p) (q : LinePut) → IsPutAt edit p q → IsClosed text path p s q → hit_level (put_plan s.around p.entity q) ≡ None
    → ((fits_at (tree text) s.numbers p (put_head p q) ≡ true) ↔ FieldsLocal text path p s q)
fits_told text path edit p s q h c u =
    let e = p.entity in
    let n = left_at levels s.around in
    let d = default_at false s.around in
    let fields = lines_put q in
    let ends = ends_stay text path edit p s q h c in
    let kinds = kinds_stay text path edit p s q h c in
    let glued = glued_told text path p s in
    let same = fields_same fields e in (
      (λ k.
          let r = fits_parts (glued_below false s.numbers (root_of (tree text))) (look_there text path p s q) (keeps_kinds (length s.numbers + 1) (put_head p q) p) k in
          let x = ends.0 r.1 in
          let y = kinds.0 r.2 in
          record {
            closed = c;
            unmarked = u;
            own = subst (λ ls. AreFieldsFor n d ls e) (sym same) (record { kind = y.0; parts = y.1; header = x.0 });
            outer = fits_unglued false s.around (with_fields fields e) (sym glued ∙ r.0);
            first = x.1;
          }),
      (λ l.
          let own : AreFieldsFor n d fields e = subst (λ ls. AreFieldsFor n d ls e) same l.own in
          parts_fit (glued_below false s.numbers (root_of (tree text))) (look_there text path p s q) (keeps_kinds (length s.numbers + 1) (put_head p q) p)
          (glued ∙ glued_none text path edit p s q h l.outer) (ends.1 (own.header, l.first)) (kinds.1 (own.kind, own.parts))),
    )
