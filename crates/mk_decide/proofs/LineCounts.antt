-- An edit of fields looks at the lines that it is about, and at one more.
use Rattle.std.proofs.Common.{◌≡◌, ◌+◌, ◌≤◌, ◌||◌, ◌++◌, if◌then◌else◌, ℕ, Bool, true, false, Option, None, Some, Result, Ok, Err, List, [], ◌∷◌, refl, ap, sym, ◌∙◌, subst, length, arith, inl, inr}
use Rattle.std.proofs.lemmas.Bool.{cases_Bool}
use Rattle.std.specs.Str.{bytes_eq}
use Rattle.mk_line.specs.Lines.{cut, text_of, eol_of, AreLines}
use Rattle.mk_line.proofs.Cuts.{cut_text, lines_following}
use Rattle.mk_head.specs.Split.{head_lines}
use Rattle.mk_tree.specs.Cutting.{tail_lines}
use Rattle.mk_tree.specs.Kinds.{Kind, Leaf, Message, Multi, kind, is_digest}
use Rattle.mk_tree.specs.Tree.{Entity, leaf, message, multi, Parts, no_parts, part, print, print_parts, field_lines}
use Rattle.mk_tree.specs.Documents.{tree, document_lines}
use Rattle.mk_tree.specs.Spans.{size, digest_below}
use Rattle.mk_tree.specs.Sections.{Placed, parts_placed, section_at, head_text}
use Rattle.mk_tree.proofs.TreeNames.{has_tail}
use Rattle.mk_tree.specs.Places.{default_at}
use Rattle.mk_decide.specs.declared.field_edits.FieldEdit.{FieldEdit}
use Rattle.mk_decide.specs.declared.field_edits.FieldEdit.TheVariants.{Add, Remove, Rename, Set}
use Rattle.mk_decide.specs.Edits.{Refusal}
use Rattle.mk_decide.specs.Plans.{Plan, place_of}
use Rattle.mk_decide.specs.Local.{parts_of}
use Rattle.mk_decide.specs.FieldPuts.{LinePut, puts, plain_of}
use Rattle.mk_decide.specs.KindsKept.{is_alike, is_other, lines_of_others, lines_alike, looked_below}
use Rattle.mk_decide.specs.LocalAnswers.{opens_at, looked_bytes, looked_put, looked_at, looked_found, looked}
use Rattle.mk_decide.specs.Counts.{part_lines, default_lines, section_lines, planned_lines, place_lines, edit_lines}
use Rattle.mk_decide.proofs.Openings.{lines_front}
use Rattle.mk_decide.proofs.PutPlans.{lines_put, put_plan, plan_of_put, plan_is}
use Rattle.mk_decide.proofs.PutSites.{path_same, place_found, opens_told}
use Rattle.mk_decide.proofs.SectionSites.{IsSite, site, head_cut}
use Rattle.mk_decide.proofs.SiteFacts.{entity_fields}
use Rattle.mk_decide.proofs.FieldChanges.{fields_same}
use Rattle.mk_decide.proofs.FieldFits.{IsPutAt, line_put, given_put, entity_are, put_head, fields_put}

zero_least : (n : ℕ) → 0 ≤ n
zero_least n = omega arith

none_more : (n : ℕ) → n ≡ 0 → 0 + n ≡ 0
none_more n e = omega (arith, e)

-- the parts that are looked at
others_none : (place : ℕ) (followed d g : Bool) (ps : Parts) → is_other d g ≡ false → lines_of_others g (parts_placed place followed d ps) ≡ 0
others_none place followed d g no_parts h = refl
others_none place followed d g (part l e ps) h = rw h (none_more (lines_of_others g (parts_placed (place + size (l ∷ []) + size (print e)) followed d ps)) (others_none (place + size (l ∷ []) + size (print e)) followed d g ps h))

both_same : (a b c d : ℕ) → a ≡ b → c ≡ d → a + c ≡ b + d
both_same a b c d p q = omega (arith, p, q)

others_some : (place : ℕ) (followed d g : Bool) (ps : Parts) → AreLines (print_parts ps) → is_other d g ≡ true → lines_of_others g (parts_placed place followed d ps) ≡ part_lines ps
others_some place followed d g no_parts a h = refl
others_some place followed d g (part l e ps) a h =
    rw h
    (both_same (length (cut (text_of (field_lines e)))) (length (field_lines e)) (lines_of_others g (parts_placed (place + size (l ∷ []) + size (print e)) followed d ps)) (part_lines ps)
    (ap length (cut_text (field_lines e) (entity_fields e (lines_front (print e) (print_parts ps) a.2))))
    (others_some (place + size (l ∷ []) + size (print e)) followed d g ps (lines_following (print e) (print_parts ps) a.2) h))

others_are : (place : ℕ) (followed d g : Bool) (ps : Parts) → AreLines (print_parts ps) → lines_of_others g (parts_placed place followed d ps) ≡ (if is_other d g then part_lines ps else 0)
others_are place followed d g ps a =
    elim (cases_Bool (is_other d g)) [
      | inl h ↦ rw h (others_some place followed d g ps a h)
      | inr h ↦ rw h (others_none place followed d g ps h)
    ]

if_most : (t : Bool) (m n : ℕ) → m ≤ n → (if t then m else 0) ≤ n
if_most true m n h = h
if_most false m n h = zero_least n

same_most : (m n : ℕ) → m ≡ n → m ≤ n
same_most m n e = omega (arith, e)

-- the lines of the parts by the kind that the new fields say
abbrev kind_lines : Bool → Entity → Kind → ℕ
kind_lines d e k = if is_other (is_digest (kind (field_lines e) d)) (is_digest k) then part_lines (parts_of e) else 0

alike_lines : (start : ℕ) (followed d : Bool) (k : Kind) (e : Entity) → AreLines (print e) → lines_alike k (record { start = start; followed = followed; digest = d; entity = e }) ≤ kind_lines d e k
alike_lines start followed d Leaf e a = if_most (is_alike Leaf e) 0 (kind_lines d e Leaf) (zero_least (kind_lines d e Leaf))
alike_lines start followed d Message e a = if_most (is_alike Message e) 0 (kind_lines d e Message) (zero_least (kind_lines d e Message))
alike_lines start followed d (Multi c g) (leaf h ls) a = zero_least (kind_lines d (leaf h ls) (Multi c g))
alike_lines start followed d (Multi c g) (message h e) a = zero_least (kind_lines d (message h e) (Multi c g))
alike_lines start followed d (Multi c g) (multi h b pre ps t) a =
    let place = start + size (head_lines h) + size pre in
    let parts : AreLines (print_parts ps) = lines_front (print_parts ps) (tail_lines t) (lines_following pre (print_parts ps ++ tail_lines t) (lines_following (head_lines h) (pre ++ (print_parts ps ++ tail_lines t)) a)) in
    let are = others_are place (has_tail t || followed) (digest_below d h) g ps parts in
    if_most (bytes_eq b c) (lines_of_others g (parts_placed place (has_tail t || followed) (digest_below d h) ps)) (kind_lines d (multi h b pre ps t) (Multi c g))
    (same_most (lines_of_others g (parts_placed place (has_tail t || followed) (digest_below d h) ps)) (kind_lines d (multi h b pre ps t) (Multi c g)) are)

below_lines : (text path : List ℕ) (edit : FieldEdit) (p : Placed) (s : IsSite text path p) (q : LinePut) → IsPutAt edit p q → opens_at text (p.start + size q.before) (size q.old) (text_of q.given) ≡ false
    → looked_below (put_head p q) p ≤ default_lines (default_at false s.around) p.entity (lines_put q)
below_lines text path edit p s q h o =
    let c = sym (opens_told text path p s q (line_put edit p q h) (given_put edit p q h)) ∙ o in
    let e = p.entity in
    let fields = lines_put q in
    let same : p.digest ≡ default_at false s.around = ap (λ (x : Placed). x.digest) s.placed_is in
    subst (λ g. looked_below (put_head p q) p ≤ default_lines g e fields) same
    (subst (λ ls. lines_alike (kind ls p.digest) p ≤ kind_lines p.digest e (kind fields p.digest)) (sym (fields_put text path edit p s q h c)) (alike_lines p.start p.followed p.digest (kind fields p.digest) e (entity_are text path p s)))

bytes_lines : (text path : List ℕ) (edit : FieldEdit) (p : Placed) (s : IsSite text path p) (q : LinePut) → IsPutAt edit p q
    → looked_bytes text p (size q.before) (size q.old) (text_of q.given) ≤ 1 + default_lines (default_at false s.around) p.entity (lines_put q)
bytes_lines text path edit p s q h =
    let n = default_lines (default_at false s.around) p.entity (lines_put q) in
    elim (cases_Bool (opens_at text (p.start + size q.before) (size q.old) (text_of q.given))) [
      | inl o ↦ rw o (zero_least (1 + n))
      | inr o ↦ rw o (let below = below_lines text path edit p s q h o in omega (arith, below))
    ]

fields_counted : (path : List ℕ) (edit : FieldEdit) (d : Bool) (e : Entity) (p : Plan) → section_lines (plain_of path edit) d e p ≡ length (field_lines e) + default_lines d e (field_lines p.new)
fields_counted path (Add top text) d e p = refl
fields_counted path (Remove name k) d e p = refl
fields_counted path (Rename name k to) d e p = refl
fields_counted path (Set name k text) d e p = refl

puts_lines : (text path : List ℕ) (edit : FieldEdit) (p : Placed) (s : IsSite text path p) (r : Result LinePut Refusal) → puts edit (cut (head_text p)) ≡ r
    → length (cut (head_text p)) + looked_put text p r ≤ planned_lines (plain_of path edit) (default_at false s.around) p.entity (plan_of_put s.around p.entity r) + 1
puts_lines text path edit p s (Err x) h = let head = ap length (head_cut text path p s) in omega (arith, head)
puts_lines text path edit p s (Ok q) h =
    let e = p.entity in
    let d = default_at false s.around in
    let head = ap length (head_cut text path p s) in
    let most = bytes_lines text path edit p s q h in
    let same : default_lines d e (field_lines (put_plan s.around e q).new) ≡ default_lines d e (lines_put q) = ap (default_lines d e) (fields_same (lines_put q) e) in
    let own = fields_counted path edit d e (put_plan s.around e q) in
    omega (arith, head, most, same, own)

lines_planned : (text path : List ℕ) (edit : FieldEdit) (p : Placed) (s : IsSite text path p)
    → edit_lines (plain_of path edit) (tree text) ≡ planned_lines (plain_of path edit) (default_at false s.around) p.entity (plan_of_put s.around p.entity (puts edit (cut (head_text p))))
lines_planned text path edit p s =
    let eol = eol_of (document_lines (tree text)) in
    let e = plain_of path edit in
    ap (place_lines e eol) (ap (λ x. place_of x (tree text).root) (path_same path edit) ∙ place_found text path p s)
    ∙ ap (planned_lines e (default_at false s.around) p.entity) (plan_is path edit eol s.around p.entity ∙ ap (λ ls. plan_of_put s.around p.entity (puts edit ls)) (sym (head_cut text path p s)))

found_lines : (text path : List ℕ) (edit : FieldEdit) (o : Option Placed) → section_at path (tree text) ≡ o → looked_found text edit o ≤ edit_lines (plain_of path edit) (tree text) + 1
found_lines text path edit None h = zero_least (edit_lines (plain_of path edit) (tree text) + 1)
found_lines text path edit (Some p) h =
    let s = site text path p h in
    subst (λ n. looked_at text edit p ≤ n + 1) (sym (lines_planned text path edit p s)) (puts_lines text path edit p s (puts edit (cut (head_text p))) refl)

pub looked_lines : (text path : List ℕ) (edit : FieldEdit) → looked text path edit ≤ edit_lines (plain_of path edit) (tree text) + 1
looked_lines text path edit = found_lines text path edit (section_at path (tree text)) refl

pub found_most : (text path : List ℕ) (edit : FieldEdit) (p : Placed) (o : Option Placed) → o ≡ section_at path (tree text) → o ≡ Some p → looked_at text edit p ≤ edit_lines (plain_of path edit) (tree text) + 1
found_most text path edit p o s e = subst (λ x. looked_found text edit x ≤ edit_lines (plain_of path edit) (tree text) + 1) (sym s ∙ e) (looked_lines text path edit)
