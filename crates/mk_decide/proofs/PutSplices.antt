-- The splice of an edit of fields, by what it puts among them.
use Rattle.std.proofs.Common.{◌≡◌, ◌+◌, ◌-◌, ◌≤◌, ◌++◌, if◌then◌else◌, ℕ, Bool, true, false, not, Option, None, Some, Result, Ok, List, [], ◌∷◌, refl, ap, sym, ◌∙◌, length, take, drop, arith, append_assoc, length-append, add-zero}
use Rattle.std.proofs.Math.Seq.{take-append_seam, drop-append_seam}
use Rattle.mk_line.specs.declared.cutting.Ending.{Ending}
use Rattle.mk_line.specs.Lines.{cut, text_of, eol_of, printed_line, ending_bytes}
use Rattle.mk_line.proofs.Cuts.{text_cut, append_nil}
use Rattle.mk_head.specs.Fields.{name_of, is_one_field}
use Rattle.mk_tree.specs.Tree.{Entity, field_lines}
use Rattle.mk_tree.specs.Documents.{tree, document_lines}
use Rattle.mk_tree.specs.Spans.{size}
use Rattle.mk_tree.specs.Sections.{Placed, head_text}
use Rattle.mk_tree.specs.Places.{Frame, placed}
use Rattle.mk_tree.proofs.Descent.{size_append}
use Rattle.mk_decide.specs.declared.field_edits.FieldEdit.{FieldEdit}
use Rattle.mk_decide.specs.declared.field_edits.FieldEdit.TheVariants.{Add, Remove, Rename, Set}
use Rattle.mk_decide.specs.Edits.{Refusal, BadField, BadName}
use Rattle.mk_line.specs.Kinds.{is_name}
use Rattle.mk_decide.specs.FieldEdits.{Found, field_at, after_name, renamed}
use Rattle.mk_decide.specs.Plans.{place_of}
use Rattle.mk_decide.proofs.PlanNames.{with_field, splices_at, put_unless}
use Rattle.mk_splice.specs.Splices.{Splice}
use Rattle.mk_decide.specs.EditSplices.{one_splice, for_found, splices_in, splices_of}
use Rattle.mk_decide.specs.FieldPuts.{LinePut, add_put, set_put, name_put, puts, plain_of}
use Rattle.mk_decide.proofs.Counting.{name_before}
use Rattle.mk_decide.proofs.FieldPutFacts.{IsLinePut}
use Rattle.mk_decide.proofs.PutNew.{OfPut, unless_put}
use Rattle.mk_decide.proofs.PutTexts.{apart}
use Rattle.mk_decide.proofs.PutSites.{path_same, place_found, before_put, after_put, old_lines, place_is}
use Rattle.mk_decide.proofs.SectionSites.{IsSite}

-- what stands before the bytes that stay
front_taken : (xs ys zs : List ℕ) → zs ≡ xs ++ ys → take (length zs - length ys) zs ≡ xs
front_taken xs ys zs e =
    let count : length zs - length ys ≡ length xs = omega (arith, ap length e, length-append xs ys) in
    ap (λ n. take n zs) count ∙ (ap (take (length xs)) e ∙ take-append_seam xs ys)

all_taken : (zs : List ℕ) → take (length zs - 0) zs ≡ zs
all_taken zs = front_taken zs [] zs (sym (append_nil zs))

-- the splice of lines put among others
abbrev pub put_splices : ℕ → LinePut → List Splice
put_splices start q = one_splice (start + size q.before) (take (size q.old - length q.kept) (text_of q.old)) (take (size q.given - length q.kept) (text_of q.given))

same_splice : (j k : ℕ) (old gone new put : List ℕ) → j ≡ k → old ≡ gone → new ≡ put → one_splice j old new ≡ one_splice k gone put
same_splice j k old gone new put p q r = λ i. record { place = p i; old = q i; new = r i } ∷ []

given_text : (text : List ℕ) → text ≡ take (size (cut text) - 0) (text_of (cut text))
given_text text = sym (text_cut text) ∙ sym (all_taken (text_of (cut text)))

add_splices : (start : ℕ) (top : Bool) (text : List ℕ) (s : Entity) → one_splice (if top then start else start + size (field_lines s)) [] text ≡ put_splices start (add_put top (cut text) (field_lines s))
add_splices start true text s = same_splice start (start + 0) [] [] text _ (sym (add-zero start)) refl (given_text text)
add_splices start false text s = same_splice (start + size (field_lines s)) (start + size (field_lines s)) [] [] text _ refl refl (given_text text)

set_splices : (start : ℕ) (text : List ℕ) (f : Found) → one_splice (start + size f.before) (text_of (f.start ∷ f.more)) text ≡ put_splices start (set_put (cut text) f)
set_splices start text f = same_splice (start + size f.before) (start + size f.before) (text_of (f.start ∷ f.more)) _ text _ refl (sym (all_taken (text_of (f.start ∷ f.more)))) (given_text text)

drop_splices : (start : ℕ) (f : Found) → one_splice (start + size f.before) (text_of (f.start ∷ f.more)) [] ≡ put_splices start (set_put [] f)
drop_splices start f = same_splice (start + size f.before) (start + size f.before) (text_of (f.start ∷ f.more)) _ [] [] refl (sym (all_taken (text_of (f.start ∷ f.more)))) refl

name_splices : (start : ℕ) (to : List ℕ) (f : Found) → one_splice (start + size f.before) (name_of f.start) to ≡ put_splices start (name_put to f)
name_splices start to f =
    let kept = after_name f.start.content ++ ending_bytes f.start.ending in
    let old : text_of (f.start ∷ []) ≡ name_of f.start ++ kept =
    append_nil (printed_line f.start) ∙ (ap (λ xs. xs ++ ending_bytes f.start.ending) (sym (name_before f.start.content)) ∙ append_assoc (name_of f.start) (after_name f.start.content) (ending_bytes f.start.ending)) in
    let new : text_of (renamed to f.start ∷ []) ≡ to ++ kept = append_nil (printed_line (renamed to f.start)) ∙ append_assoc to (after_name f.start.content) (ending_bytes f.start.ending) in
    same_splice (start + size f.before) (start + size f.before) (name_of f.start) _ to _ refl (sym (front_taken (name_of f.start) kept (text_of (f.start ∷ [])) old)) (sym (front_taken to kept (text_of (renamed to f.start ∷ [])) new))

found_splices : (start : ℕ) (o : Option Found) (f : Found → List Splice) (g : Found → Result LinePut Refusal) → ((x : Found) → OfPut (λ q. f x ≡ put_splices start q) (g x)) → OfPut (λ q. for_found o f ≡ put_splices start q) (with_field o g)
found_splices start None f g k = tt
found_splices start (Some x) f g k = k x

puts_splices : (path : List ℕ) (edit : FieldEdit) (eol : Ending) (start : ℕ) (fs : List Frame) (s : Entity) → OfPut (λ q. splices_in (plain_of path edit) eol start fs s ≡ put_splices start q) (puts edit (field_lines s))
puts_splices path (Add top text) eol start fs s =
    unless_put (λ q. one_splice (if top then start else start + size (field_lines s)) [] text.now ≡ put_splices start q) (not (is_one_field (cut text.now))) BadField (add_put top (cut text.now) (field_lines s)) (λ h. add_splices start top text.now s)
puts_splices path (Remove name k) eol start fs s =
    found_splices start (field_at name.now k (field_lines s)) (λ f. one_splice (start + size f.before) (text_of (f.start ∷ f.more)) []) (λ f. Ok (set_put [] f)) (λ f. drop_splices start f)
puts_splices path (Rename name k to) eol start fs s =
    found_splices start (field_at name.now k (field_lines s)) (λ f. one_splice (start + size f.before) (name_of f.start) to.now) (λ f. put_unless (not (is_name to.now)) BadName (name_put to.now f))
    (λ f. unless_put (λ q. one_splice (start + size f.before) (name_of f.start) to.now ≡ put_splices start q) (not (is_name to.now)) BadName (name_put to.now f) (λ h. name_splices start to.now f))
puts_splices path (Set name k text) eol start fs s =
    found_splices start (field_at name.now k (field_lines s)) (λ f. one_splice (start + size f.before) (text_of (f.start ∷ f.more)) text.now) (λ f. put_unless (not (is_one_field (cut text.now))) BadField (set_put (cut text.now) f))
    (λ f. unless_put (λ q. one_splice (start + size f.before) (text_of (f.start ∷ f.more)) text.now ≡ put_splices start q) (not (is_one_field (cut text.now))) BadField (set_put (cut text.now) f) (λ h. set_splices start text.now f))

of_ok : (P : LinePut → Type 0) (r : Result LinePut Refusal) (q : LinePut) → r ≡ Ok q → OfPut P r → P q
of_ok P r q e h = let k : OfPut P (Ok q) = (rw e at h) in k

-- the old bytes at the place
old_bytes : (text path : List ℕ) (p : Placed) (s : IsSite text path p) (q : LinePut) → IsLinePut (cut (head_text p)) q → take (size q.old - length q.kept) (drop (p.start + size q.before) text) ≡ take (size q.old - length q.kept) (text_of q.old)
old_bytes text path p s q i =
    let front = before_put text path p s q in
    let following = after_put text path p s q in
    let all : text ≡ text_of front ++ (text_of q.old ++ text_of following) = sym (text_cut text) ∙ (ap text_of (old_lines text path p s q i) ∙ apart front q.old following) in
    let count : size q.old - length q.kept ≡ length i.gone = omega (arith, ap length i.old_is, length-append i.gone q.kept) in
    let there : text_of q.old ++ text_of following ≡ i.gone ++ (q.kept ++ text_of following) = ap (λ t. t ++ text_of following) i.old_is ∙ append_assoc i.gone q.kept (text_of following) in
    ap (λ n. take (size q.old - length q.kept) (drop n text)) (place_is text path p s q)
    ∙ (ap (λ t. take (size q.old - length q.kept) (drop (size front) t)) all
    ∙ (ap (take (size q.old - length q.kept)) (drop-append_seam (text_of front) (text_of q.old ++ text_of following) ∙ there)
    ∙ (ap (λ n. take n (i.gone ++ (q.kept ++ text_of following))) count
    ∙ (take-append_seam i.gone (q.kept ++ text_of following)
    ∙ (sym (take-append_seam i.gone q.kept) ∙ (ap (take (length i.gone)) (sym i.old_is) ∙ ap (λ n. take n (text_of q.old)) (sym count)))))))

-- the splice of the edit is the one that is answered
pub splices_told : (text path : List ℕ) (edit : FieldEdit) (p : Placed) (s : IsSite text path p) (q : LinePut) → IsLinePut (cut (head_text p)) q → puts edit (field_lines p.entity) ≡ Ok q
    → splices_of (plain_of path edit) (tree text) ≡ one_splice (p.start + size q.before) (take (size q.old - length q.kept) (drop (p.start + size q.before) text)) (take (size q.given - length q.kept) (text_of q.given))
splices_told text path edit p s q i h =
    let t = tree text in
    let e = plain_of path edit in
    let eol = eol_of (document_lines t) in
    let start = (placed t.envelope s.around p.entity).start in
    let same : start ≡ p.start = sym (ap (λ (x : Placed). x.start) s.placed_is) in
    ap (λ x. splices_at e eol t.envelope (place_of x t.root)) (path_same path edit)
    ∙ (ap (splices_at e eol t.envelope) (place_found text path p s)
    ∙ (of_ok (λ r. splices_in e eol start s.around p.entity ≡ put_splices start r) (puts edit (field_lines p.entity)) q h (puts_splices path edit eol start s.around p.entity)
    ∙ (ap (λ n. put_splices n q) same ∙ ap (λ old. one_splice (p.start + size q.before) old (take (size q.given - length q.kept) (text_of q.given))) (sym (old_bytes text path p s q i)))))

pub splice_within : (text path : List ℕ) (p : Placed) (s : IsSite text path p) (q : LinePut) → IsLinePut (cut (head_text p)) q → p.start + size q.before + (size q.old - length q.kept) ≤ length text
splice_within text path p s q i =
    let front = before_put text path p s q in
    let following = after_put text path p s q in
    omega (arith, place_is text path p s q, ap length (text_cut text), ap size (old_lines text path p s q i), size_append front (q.old ++ following), size_append q.old following)
