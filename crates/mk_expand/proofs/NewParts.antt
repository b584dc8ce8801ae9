-- Where `append` is accepted, the new part stands at its number, and is read from the text that was given.
use Rattle.std.proofs.Common.{codes, ◌≡◌, ◌||◌, ◌+◌, ◌++◌, if◌then◌else◌, ℕ, zero, suc, Bool, true, false, nat_le, nat_lt, length, Option, None, Some, Result, Ok, Err, List, [], ◌∷◌, refl, ap, sym, ◌∙◌, subst, inl, inr, option_and_then, arith, length-append}
use Rattle.std.proofs.lemmas.Bool.{cases_Bool, le-ltb, leb-false, lt-ltb}
use Rattle.std.proofs.lemmas.List.{append-nil}
use Rattle.std.specs.Option.{option_map, option_map_or}
use Rattle.mk_line.specs.declared.cutting.Ending.{Ending}
use Rattle.mk_line.specs.declared.marks.Mark.TheVariants.{No, Close}
use Rattle.mk_line.specs.Lines.{TextLine, cut, ending_bytes, eol_of, text_of}
use Rattle.mk_line.specs.Marks.{close_line, delimiter_line, mark}
use Rattle.mk_line.proofs.Cuts.{text_append}
use Rattle.mk_head.specs.Boundaries.{is_boundary}
use Rattle.mk_head.specs.Split.{Head, head_lines}
use Rattle.mk_head.specs.Fields.{counted}
use Rattle.mk_tree.specs.Cutting.{tail_lines}
use Rattle.mk_tree.specs.Reading.{Closes}
use Rattle.mk_tree.specs.Documents.{Document, IsStable, document_lines, levels, tree}
use Rattle.mk_tree.specs.Places.{Frame, in_message, in_multi, append_parts, default_at, left_at, part_at, place_at, placed, plug, put}
use Rattle.mk_tree.specs.Sections.{Placed, children, has_part, parts_placed, raw_of, section_at}
use Rattle.mk_tree.proofs.TreeNames.{has_tail}
use Rattle.mk_tree.specs.Spans.{digest_below, size}
use Rattle.mk_tree.specs.Tree.{Entity, leaf, message, multi, Parts, no_parts, part, print, print_parts, read}
use Rattle.mk_tree.proofs.FieldsChanged.{stable_well}
use Rattle.mk_tree.proofs.Plugs.{own_of}
use Rattle.mk_tree.proofs.Stability.{read_stable}
use Rattle.mk_decide.specs.Edits.{Refusal, InsertPart, SetSection, Wrap}
use Rattle.mk_decide.specs.Outcomes.{edited}
use Rattle.mk_decide.specs.Plans.{Plan, part_plan, parts_at, place_of, plan_at, plan_of, wrap}
use Rattle.mk_decide.specs.Wrapping.{inner_part, outer_head, wrapped}
use Rattle.mk_decide.proofs.PlanNames.{insert_between, part_read}
use Rattle.mk_decide.proofs.Accepted.{none_some, ok_same, plan_by, some_same, there_again}
use Rattle.mk_decide.proofs.EveryEdit.{plan_there}
use Rattle.mk_decide.proofs.Late.{fair}
use Rattle.mk_decide.proofs.PlacesAgain.{PathAgain, below_place, path_again, section_there}
use Rattle.mk_view.specs.Listed.{greatest_number}
use Rattle.mk_pack.specs.OwnBoundary.{boundary_beside}
use Rattle.mk_pack.proofs.OwnBoundaries.{beside_is_boundary}
use Rattle.mk_expand.specs.Appends.{appended, beside, follows_last, follows_preamble, last_divided, new_number}
use Rattle.mk_expand.specs.Contents.{divided}
use Rattle.mk_expand.specs.ExpandLaws.{IsMultipart, all_edited}
use Rattle.mk_expand.proofs.AppendsKept.{around_last, count, count_last, edits_told, last_parts, last_placed, parts_all, place_whole, placed_count, set_last}
use Rattle.mk_expand.proofs.EncodingsKept.{in_turn, last_edit}
use Rattle.mk_expand.proofs.KeptPlaces.{flag, flag_line}

-- a section that is read from a text, and whether a line follows it
pub record IsNew (text : List ℕ) (follows : Bool) (o : Option Placed) : Type 0 where
  pub part : Placed
  pub found : o ≡ Some part
  pub followed : part.followed ≡ follows
  pub left : ℕ
  pub below : Bool
  pub is_read : part.entity ≡ read left below (cut text)

-- the part that is put between parts
abbrev NewAt : ℕ → Option (Parts × Parts) → Type 0
NewAt k None = Unit {0}
NewAt k (Some q) = (d : TextLine) (x : Entity) → part_at (suc k) (append_parts q.0 (part d x q.1)) ≡ Some (q.0, d, x, q.1)

new_later : (k : ℕ) (l : TextLine) (e : Entity) (o : Option (Parts × Parts)) → NewAt k o → NewAt (suc k) (option_map (λ (q : Parts × Parts). (part l e q.0, q.1)) o)
new_later k l e None h = tt
new_later k l e (Some q) h = λ d x. ap (option_map (λ (r : Parts × TextLine × Entity × Parts). (part l e r.0, r.1, r.2, r.3))) (h d x)

new_at : (k : ℕ) (ps : Parts) → NewAt k (parts_at k ps)
new_at zero ps = λ d x. refl
new_at (suc k) no_parts = tt
new_at (suc k) (part l e ps) = new_later k l e (parts_at k ps) (new_at k ps)

-- so many parts after it
abbrev RestAt : ℕ → ℕ → Option (Parts × Parts) → Type 0
RestAt k n None = Unit {0}
RestAt k n (Some q) = n ≡ k + count q.1

rest_later : (k n : ℕ) (l : TextLine) (e : Entity) (o : Option (Parts × Parts)) → RestAt k n o → RestAt (suc k) (suc n) (option_map (λ (q : Parts × Parts). (part l e q.0, q.1)) o)
rest_later k n l e None h = tt
rest_later k n l e (Some q) h = omega (arith, h)

rest_at : (k : ℕ) (ps : Parts) → RestAt k (count ps) (parts_at k ps)
unfolding count
rest_at zero ps = omega arith
rest_at (suc k) no_parts = tt
rest_at (suc k) (part l e ps) = rest_later k (count ps) l e (parts_at k ps) (rest_at k ps)

some_rest : (k n : ℕ) (ps : Parts) → n ≡ k + count ps → nat_le n k ≡ false → has_part ps ≡ true
unfolding count
some_rest k n no_parts e h = absurd (omega (arith, e, leb-false n k h))
some_rest k n (part l x ps) e h = refl

-- a part that was inserted
pub record Inserted (text : List ℕ) (place : ℕ) (fs : List Frame) (h : Head) (b : List ℕ) (pre : List TextLine) (ps : Parts) (tail : Option (TextLine × List TextLine)) (u : Document) : Type 0 where
  pub apart : Parts × Parts
  pub at : parts_at place ps ≡ Some apart
  pub delimiter : TextLine
  pub root : u.root ≡ plug fs (multi h b pre (append_parts apart.0 (part delimiter (part_read fs h (cut text)) apart.1)) tail)

err_plan : {A : Type 0} (e : Refusal) (p : Plan) → ◌≡◌ {A = Result Plan Refusal} (Err e) (Ok p) → A
err_plan e p h = cc

inserted_by : (text : List ℕ) (place : ℕ) (t u : Document) (fs : List Frame) (h : Head) (b : List ℕ) (pre : List TextLine) (ps : Parts) (tail : Option (TextLine × List TextLine)) (p : Plan) (o : Option (Parts × Parts)) → parts_at place ps ≡ o → u.root ≡ plug p.around p.new
    → insert_between (eol_of (document_lines t)) fs h b pre tail (cut text) o ≡ Ok p → Inserted text place fs h b pre ps tail u
inserted_by text place t u fs h b pre ps tail p None at root is = err_plan _ p is
inserted_by text place t u fs h b pre ps tail p (Some q) at root is =
    let same = ok_same (part_plan (eol_of (document_lines t)) fs h b pre tail (cut text) q) p is in
    record { apart = q; at = at; delimiter = delimiter_line (eol_of (document_lines t)) b; root = root ∙ ap (λ (r : Plan). plug r.around r.new) (sym same) }

pub inserted : (path text : List ℕ) (place : ℕ) (t u : Document) (fs : List Frame) (h : Head) (b : List ℕ) (pre : List TextLine) (ps : Parts) (tail : Option (TextLine × List TextLine)) → place_of path t.root ≡ Some (fs, multi h b pre ps tail)
    → edited (InsertPart path place text) t ≡ Ok u → Inserted text place fs h b pre ps tail u
inserted path text place t u fs h b pre ps tail there done =
    let e = InsertPart path place text in
    let plan = plan_by t u e (plan_of e t) refl (fair e t) done in
    inserted_by text place t u fs h b pre ps tail plan.plan (parts_at place ps) refl (ap (λ (d : Document). d.root) plan.gives) (plan_there e t fs (multi h b pre ps tail) plan.plan there plan.is)

-- whether a line follows a place below others
pub flag_after : (f : Bool) (fs gs : List Frame) → flag f (fs ++ gs) ≡ flag (flag f fs) gs
flag_after f [] gs = refl
flag_after f (in_message h ∷ fs) gs = flag_after f fs gs
flag_after f (in_multi h b pre before l after t ∷ fs) gs = flag_after (has_part after || (has_tail t || f)) fs gs

-- it stands at its number
new_there : (path text : List ℕ) (place : ℕ) (t u : Document) (fs : List Frame) (h : Head) (b : List ℕ) (pre : List TextLine) (ps : Parts) (tail : Option (TextLine × List TextLine)) → place_of path t.root ≡ Some (fs, multi h b pre ps tail)
    → (i : Inserted text place fs h b pre ps tail u) → IsNew text (has_part i.apart.1 || (has_tail tail || flag false fs)) (section_at (path ++ suc place ∷ []) u)
new_there path text place t u fs h b pre ps tail there i =
    let x = part_read fs h (cut text) in
    let q = i.apart in
    let whole = multi h b pre (append_parts q.0 (part i.delimiter x q.1)) tail in
    let frame = in_multi h b pre q.0 i.delimiter q.1 tail in
    let again : PathAgain path (Some (fs, multi h b pre ps tail)) = subst (PathAgain path) there (path_again path t.root) in
    let new : NewAt place (Some q) = subst (NewAt place) i.at (new_at place ps) in
    let found : place_of (path ++ suc place ∷ []) u.root ≡ Some (fs ++ frame ∷ [], x) =
    ap (place_of (path ++ suc place ∷ [])) i.root
    ∙ (again (suc place ∷ []) whole
    ∙ ap (λ o. below_place fs (option_and_then (λ (p : Frame × Entity). option_map (λ (q : List Frame × Entity). (p.0 ∷ q.0, q.1)) (place_at [] p.1)) (option_map (λ (r : Parts × TextLine × Entity × Parts). (in_multi h b pre r.0 r.1 r.3 tail, r.2)) o))) (new i.delimiter x)) in
    record {
      part = placed u.envelope (fs ++ frame ∷ []) x;
      found = section_there (path ++ suc place ∷ []) u ∙ ap (option_map (λ (r : List Frame × Entity). placed u.envelope r.0 r.1)) found;
      followed = flag_line (fs ++ frame ∷ []) ∙ flag_after false fs (frame ∷ []);
      left = _;
      below = _;
      is_read = refl;
    }

-- ---- whether a line follows the last part

blank_mark : (b content : List ℕ) → content ≡ [] → mark b content ≡ Close → ⊥
blank_mark b content e h = let bad : No ≡ Close = sym (ap (mark b) e) ∙ h in cc

longer : (x : ℕ) (xs ys zs : List ℕ) → nat_lt (length xs) (length (xs ++ ((x ∷ ys) ++ zs))) ≡ true
longer x xs ys zs = lt-ltb (length xs) (length (xs ++ ((x ∷ ys) ++ zs))) (omega (arith, length-append xs ((x ∷ ys) ++ zs)))

same_long : (n : ℕ) → nat_lt n n ≡ false
same_long n = le-ltb n n (omega arith)

line_longer : (xs content ending zs : List ℕ) → (content ≡ [] → ⊥) → nat_lt (length xs) (length (xs ++ ((content ++ ending) ++ zs))) ≡ true
line_longer xs [] ending zs n = absurd (n refl)
line_longer xs (c ∷ cs) ending zs n = longer c xs (cs ++ ending) zs

closed_goes : (b : List ℕ) (pre : List TextLine) (tail : Option (TextLine × List TextLine)) → Closes b tail → nat_lt (length (text_of pre)) (length (text_of (pre ++ tail_lines tail))) ≡ has_tail tail
closed_goes b pre None c = ap (λ ls. nat_lt (length (text_of pre)) (length (text_of ls))) (append-nil pre) ∙ same_long (length (text_of pre))
closed_goes b pre (Some t) c =
    ap (λ text. nat_lt (length (text_of pre)) (length text)) (text_append pre (t.0 ∷ t.1))
    ∙ line_longer (text_of pre) t.0.content (ending_bytes t.0.ending) (text_of t.1) (λ e. blank_mark b t.0.content e c)

-- without parts
none_follows : (b : List ℕ) (pre : List TextLine) (ps : Parts) (tail : Option (TextLine × List TextLine)) (place : ℕ) (f digest : Bool) → Closes b tail → ps ≡ no_parts
    → option_map_or (λ (q : Placed). q.followed) (counted (length (parts_placed place (has_tail tail || f) digest ps)) (parts_placed place (has_tail tail || f) digest ps)) (nat_lt (length (text_of pre)) (length (text_of (pre ++ (print_parts ps ++ tail_lines tail)))) || f) ≡ (has_tail tail || f)
none_follows b pre ps tail place f digest c e =
    subst (λ x. option_map_or (λ (q : Placed). q.followed) (counted (length (parts_placed place (has_tail tail || f) digest x)) (parts_placed place (has_tail tail || f) digest x)) (nat_lt (length (text_of pre)) (length (text_of (pre ++ (print_parts x ++ tail_lines tail)))) || f) ≡ (has_tail tail || f)) (sym e)
    (ap (λ t. t || f) (closed_goes b pre tail c))

-- with parts
some_follows : (before : Parts) (l : TextLine) (e : Entity) (ps : Parts) (place : ℕ) (f digest other : Bool) → ps ≡ append_parts before (part l e no_parts)
    → option_map_or (λ (q : Placed). q.followed) (counted (length (parts_placed place f digest ps)) (parts_placed place f digest ps)) other ≡ f
some_follows before l e ps place f digest other same =
    let all = append_parts before (part l e no_parts) in
    let last = last_placed place f digest before l e in
    ap (λ x. option_map_or (λ (q : Placed). q.followed) (counted (length (parts_placed place f digest x)) (parts_placed place f digest x)) other) same
    ∙ (ap (λ n. option_map_or (λ (q : Placed). q.followed) (counted n (parts_placed place f digest all)) other) (placed_count place f digest all)
    ∙ (ap (λ o. option_map_or (λ (q : Placed). q.followed) o other) last.found ∙ last.followed))

last_follows : (mail path : List ℕ) (fs : List Frame) (h : Head) (b : List ℕ) (pre : List TextLine) (ps : Parts) (tail : Option (TextLine × List TextLine)) → place_of path (tree mail).root ≡ Some (fs, multi h b pre ps tail)
    → nat_le (length (children (placed (tree mail).envelope fs (multi h b pre ps tail)))) greatest_number ≡ true → follows_last (placed (tree mail).envelope fs (multi h b pre ps tail)) ≡ (has_tail tail || flag false fs)
last_follows mail path fs h b pre ps tail there fits =
    let t = tree mail in
    let s = multi h b pre ps tail in
    let p = placed t.envelope fs s in
    let f = p.followed in
    let whole : put t.envelope fs s ≡ t = λ i. record { envelope = t.envelope; root = place_whole path t.root fs s there i } in
    let well = own_of levels false fs s (stable_well t.envelope fs s (subst IsStable (sym whole) (read_stable mail))) in
    ap (λ x. if x then option_map_or (λ (q : Placed). q.followed) (counted (length (children p)) (children p)) (follows_preamble p) else true) fits
    ∙ (elim (last_parts ps) [
      | inl none ↦ none_follows b pre ps tail _ f _ well.4 none
      | inr some ↦ some_follows some.0 some.1 some.2 ps _ (has_tail tail || f) _ (follows_preamble p) some.3
    ]
    ∙ ap (λ x. has_tail tail || x) (flag_line fs))

-- ---- the part after the others

at_end : (path text : List ℕ) (t u : Document) (fs : List Frame) (h : Head) (b : List ℕ) (pre : List TextLine) (ps : Parts) (tail : Option (TextLine × List TextLine)) → place_of path t.root ≡ Some (fs, multi h b pre ps tail)
    → edited (InsertPart path (count ps) text) t ≡ Ok u → IsNew text (has_tail tail || flag false fs) (section_at (path ++ suc (count ps) ∷ []) u)
at_end path text t u fs h b pre ps tail there done =
    let i = inserted path text (count ps) t u fs h b pre ps tail there done in
    let same : ◌≡◌ {A = Option (Parts × Parts)} (Some i.apart) (Some (ps, no_parts)) = sym i.at ∙ parts_all ps in
    let last : has_part i.apart.1 ≡ false = ap (λ (o : Option (Parts × Parts)). option_map_or (λ q. has_part q.1) o false) same in
    subst (λ x. IsNew text (x || (has_tail tail || flag false fs)) (section_at (path ++ suc (count ps) ∷ []) u)) last (new_there path text (count ps) t u fs h b pre ps tail there i)

after_last : (eol : Ending) (path text : List ℕ) (t u : Document) (fs : List Frame) (h : Head) (b : List ℕ) (pre : List TextLine) (before : Parts) (l : TextLine) (e : Entity) (tail : Option (TextLine × List TextLine)) (f : Bool)
    → place_of path t.root ≡ Some (fs, multi h b pre (append_parts before (part l e no_parts)) tail) → (has_tail tail || flag false fs) ≡ f
    → all_edited ((if f then [] else SetSection (path ++ count (append_parts before (part l e no_parts)) ∷ []) (divided eol (text_of (print e))) ∷ []) ++ InsertPart path (count (append_parts before (part l e no_parts))) text ∷ []) t ≡ Ok u
    → IsNew text (has_tail tail || flag false fs) (section_at (path ++ suc (count (append_parts before (part l e no_parts))) ∷ []) u)
unfolding around_last
after_last eol path text t u fs h b pre before l e tail true there is done =
    let ps = append_parts before (part l e no_parts) in
    at_end path text t u fs h b pre ps tail there (last_edit (InsertPart path (count ps) text) t u done)
after_last eol path text t u fs h b pre before l e tail false there is done =
    let ps = append_parts before (part l e no_parts) in
    let given = divided eol (text_of (print e)) in
    let set = SetSection (path ++ count ps ∷ []) given in
    let around = around_last fs h b pre before l tail in
    let grown = read (left_at levels around) (default_at false around) (cut given) in
    let made = in_turn (all_edited (InsertPart path (count ps) text ∷ [])) (edited set t) u done in
    let now = append_parts before (part l grown no_parts) in
    let root = set_last path given t made.0 fs h b pre before l e tail there made.1 in
    let place : place_of path made.0.root ≡ Some (fs, multi h b pre now tail) = ap (place_of path) root ∙ there_again path t.root fs (multi h b pre ps tail) (multi h b pre now tail) there in
    let same : count ps ≡ count now = count_last before l e grown in
    let last = subst (λ k. edited (InsertPart path k text) made.0 ≡ Ok u) same (last_edit (InsertPart path (count ps) text) made.0 u made.2) in
    subst (λ k. IsNew text (has_tail tail || flag false fs) (section_at (path ++ suc k ∷ []) u)) (sym same) (at_end path text made.0 u fs h b pre now tail place last)

-- as many parts as have numbers
none_before : (eol : Ending) (path text : List ℕ) (t u : Document) (fs : List Frame) (h : Head) (b : List ℕ) (pre : List TextLine) (ps : Parts) (tail : Option (TextLine × List TextLine)) (place : ℕ) (f digest : Bool) → ps ≡ no_parts
    → place_of path t.root ≡ Some (fs, multi h b pre ps tail) → all_edited (last_divided eol path (count ps) (parts_placed place f digest ps) ++ InsertPart path (count ps) text ∷ []) t ≡ Ok u
    → IsNew text (has_tail tail || flag false fs) (section_at (path ++ suc (count ps) ∷ []) u)
unfolding count
none_before eol path text t u fs h b pre ps tail place f digest none there done =
    subst (λ x. IsNew text (has_tail tail || flag false fs) (section_at (path ++ suc (count x) ∷ []) u)) (sym none)
    (at_end path text t u fs h b pre no_parts tail (there ∙ ap (λ x. Some (fs, multi h b pre x tail)) none)
    (last_edit (InsertPart path 0 text) t u (subst (λ x. all_edited (last_divided eol path (count x) (parts_placed place f digest x) ++ InsertPart path (count x) text ∷ []) t ≡ Ok u) none done)))

some_before : (eol : Ending) (path text : List ℕ) (t u : Document) (fs : List Frame) (h : Head) (b : List ℕ) (pre : List TextLine) (ps before : Parts) (l : TextLine) (e : Entity) (tail : Option (TextLine × List TextLine)) (place : ℕ) (digest : Bool)
    → ps ≡ append_parts before (part l e no_parts) → place_of path t.root ≡ Some (fs, multi h b pre ps tail)
    → all_edited (last_divided eol path (count ps) (parts_placed place (has_tail tail || flag false fs) digest ps) ++ InsertPart path (count ps) text ∷ []) t ≡ Ok u
    → IsNew text (has_tail tail || flag false fs) (section_at (path ++ suc (count ps) ∷ []) u)
some_before eol path text t u fs h b pre ps before l e tail place digest same there done =
    let f = has_tail tail || flag false fs in
    let all = append_parts before (part l e no_parts) in
    let done' : all_edited (last_divided eol path (count all) (parts_placed place f digest all) ++ InsertPart path (count all) text ∷ []) t ≡ Ok u =
    subst (λ x. all_edited (last_divided eol path (count x) (parts_placed place f digest x) ++ InsertPart path (count x) text ∷ []) t ≡ Ok u) same done in
    subst (λ x. IsNew text f (section_at (path ++ suc (count x) ∷ []) u)) (sym same)
    (after_last eol path text t u fs h b pre before l e tail f (there ∙ ap (λ x. Some (fs, multi h b pre x tail)) same) refl
    (ap (λ es. all_edited es t) (sym (edits_told eol path text _ f e (count all) (last_placed place f digest before l e))) ∙ done'))

within : (eol : Ending) (path text mail : List ℕ) (u : Document) (fs : List Frame) (h : Head) (b : List ℕ) (pre : List TextLine) (ps : Parts) (tail : Option (TextLine × List TextLine)) (place : ℕ) (digest : Bool)
    → place_of path (tree mail).root ≡ Some (fs, multi h b pre ps tail) → all_edited (last_divided eol path (count ps) (parts_placed place (has_tail tail || flag false fs) digest ps) ++ InsertPart path (count ps) text ∷ []) (tree mail) ≡ Ok u
    → IsNew text (has_tail tail || flag false fs) (section_at (path ++ suc (count ps) ∷ []) u)
within eol path text mail u fs h b pre ps tail place digest there done = elim (last_parts ps) [
  | inl none ↦ none_before eol path text (tree mail) u fs h b pre ps tail place (has_tail tail || flag false fs) digest none there done
  | inr some ↦ some_before eol path text (tree mail) u fs h b pre ps some.0 some.1 some.2 tail place digest some.3 there done
]

-- more parts than have numbers
beyond : (path text : List ℕ) (place number : ℕ) (t u : Document) (fs : List Frame) (h : Head) (b : List ℕ) (pre : List TextLine) (ps : Parts) (tail : Option (TextLine × List TextLine)) → place_of path t.root ≡ Some (fs, multi h b pre ps tail)
    → number ≡ count ps → nat_le number place ≡ false → all_edited (InsertPart path place text ∷ []) t ≡ Ok u → IsNew text true (section_at (path ++ suc place ∷ []) u)
beyond path text place number t u fs h b pre ps tail there same more done =
    let i = inserted path text place t u fs h b pre ps tail there (last_edit (InsertPart path place text) t u done) in
    let rest : RestAt place (count ps) (Some i.apart) = subst (RestAt place (count ps)) i.at (rest_at place ps) in
    let some = some_rest place number i.apart.1 (same ∙ rest) more in
    subst (λ x. IsNew text (x || (has_tail tail || flag false fs)) (section_at (path ++ suc place ∷ []) u)) some (new_there path text place t u fs h b pre ps tail there i)

multi_new : (eol : Ending) (path text mail : List ℕ) (u : Document) (fs : List Frame) (s : Entity) → place_of path (tree mail).root ≡ Some (fs, s) → IsMultipart s → all_edited (appended eol path text (placed (tree mail).envelope fs s)) (tree mail) ≡ Ok u
    → IsNew text (follows_last (placed (tree mail).envelope fs s)) (section_at (path ++ new_number (placed (tree mail).envelope fs s) ∷ []) u)
multi_new eol path text mail u fs (leaf h ls) there m done = absurd m
multi_new eol path text mail u fs (message h x) there m done = absurd m
multi_new eol path text mail u fs (multi h b pre ps tail) there m done =
    let t = tree mail in
    let p = placed t.envelope fs (multi h b pre ps tail) in
    let parts = children p in
    let size_is : length parts ≡ count ps = placed_count _ _ _ ps in
    let goal : Bool → ℕ → Type 0 = λ f n. IsNew text f (section_at (path ++ suc n ∷ []) u) in
    elim (cases_Bool (nat_le (length parts) greatest_number)) [
      | inl fits ↦
          let only : all_edited (last_divided eol path (length parts) parts ++ InsertPart path (length parts) text ∷ []) t ≡ Ok u =
          ap (λ x. all_edited (if x then last_divided eol path (length parts) parts ++ InsertPart path (length parts) text ∷ [] else InsertPart path greatest_number text ∷ []) t) (sym fits) ∙ done in
          let counted_so : all_edited (last_divided eol path (count ps) parts ++ InsertPart path (count ps) text ∷ []) t ≡ Ok u = subst (λ k. all_edited (last_divided eol path k parts ++ InsertPart path k text ∷ []) t ≡ Ok u) size_is only in
          let new = within eol path text mail u fs h b pre ps tail (p.start + size (head_lines h) + size pre) (digest_below p.digest h) there
          (subst (λ f. all_edited (last_divided eol path (count ps) (parts_placed (p.start + size (head_lines h) + size pre) (has_tail tail || f) (digest_below p.digest h) ps) ++ InsertPart path (count ps) text ∷ []) t ≡ Ok u) (flag_line fs) counted_so) in
          subst (λ n. goal (follows_last p) n) (sym (ap (λ x. if x then length parts else greatest_number) fits ∙ size_is)) (subst (λ f. goal f (count ps)) (sym (last_follows mail path fs h b pre ps tail there fits)) new)
      | inr more ↦
          let only : all_edited (InsertPart path greatest_number text ∷ []) t ≡ Ok u =
          ap (λ x. all_edited (if x then last_divided eol path (length parts) parts ++ InsertPart path (length parts) text ∷ [] else InsertPart path greatest_number text ∷ []) t) (sym more) ∙ done in
          let new = beyond path text greatest_number (length parts) t u fs h b pre ps tail there size_is more only in
          subst (λ n. goal (follows_last p) n) (sym (ap (λ x. if x then length parts else greatest_number) more))
          (subst (λ f. goal f greatest_number) (sym (ap (λ x. if x then option_map_or (λ (q : Placed). q.followed) (counted (length parts) parts) (follows_preamble p) else true) more)) new)
    ]

-- ---- the part beside a section

-- a section that was wrapped, and then got a part after it
pub record IsBeside (path text : List ℕ) (t u : Document) (fs : List Frame) (s : Entity) : Type 0 where
  pub boundary : List ℕ
  pub made : Document
  pub wraps : edited (Wrap path (codes "mixed") boundary) t ≡ Ok made
  pub there : place_of path made.root ≡ Some (fs, wrapped (eol_of (document_lines t)) fs s (codes "mixed") boundary)
  pub inserts : edited (InsertPart path 1 text) made ≡ Ok u

pub put_beside : (path text : List ℕ) (t u : Document) (fs : List Frame) (s : Entity) → place_of path t.root ≡ Some (fs, s) → all_edited (beside path text (placed t.envelope fs s)) t ≡ Ok u → IsBeside path text t u fs s
put_beside path text t u fs s there done =
    let eol = eol_of (document_lines t) in
    let b = boundary_beside (raw_of (placed t.envelope fs s)) text in
    let w = Wrap path (codes "mixed") b in
    let made = in_turn (all_edited (InsertPart path 1 text ∷ [])) (edited w t) u done in
    let plan = plan_by t made.0 w (plan_of w t) refl (fair w t) made.1 in
    let good : is_boundary b ≡ true = beside_is_boundary (raw_of (placed t.envelope fs s)) text in
    let allowed : Ok (wrap eol fs s (codes "mixed") b) ≡ plan_at w eol fs s = rw good refl in
    let same : wrap eol fs s (codes "mixed") b ≡ plan.plan = ok_same (wrap eol fs s (codes "mixed") b) plan.plan (allowed ∙ plan_there w t fs s plan.plan there plan.is) in
    let root : made.0.root ≡ plug fs (wrapped eol fs s (codes "mixed") b) = ap (λ (d : Document). d.root) plan.gives ∙ ap (λ (p : Plan). plug p.around p.new) (sym same) in
    record {
      boundary = b;
      made = made.0;
      wraps = made.1;
      there = ap (place_of path) root ∙ there_again path t.root fs s (wrapped eol fs s (codes "mixed") b) there;
      inserts = last_edit (InsertPart path 1 text) made.0 u made.2;
    }

beside_new : (path text : List ℕ) (t u : Document) (fs : List Frame) (s : Entity) → place_of path t.root ≡ Some (fs, s) → all_edited (beside path text (placed t.envelope fs s)) t ≡ Ok u → IsNew text true (section_at (path ++ 2 ∷ []) u)
unfolding count
beside_new path text t u fs s there done =
    let eol = eol_of (document_lines t) in
    let is = put_beside path text t u fs s there done in
    at_end path text is.made u fs (outer_head eol fs s (codes "mixed") is.boundary) is.boundary [] (part (delimiter_line eol is.boundary) (inner_part eol fs s) no_parts) (Some (close_line eol is.boundary, [])) is.there is.inserts

-- ---- either

any_new : (eol : Ending) (path text mail : List ℕ) (u : Document) (fs : List Frame) (s : Entity) → place_of path (tree mail).root ≡ Some (fs, s) → all_edited (appended eol path text (placed (tree mail).envelope fs s)) (tree mail) ≡ Ok u
    → IsNew text (follows_last (placed (tree mail).envelope fs s)) (section_at (path ++ new_number (placed (tree mail).envelope fs s) ∷ []) u)
any_new eol path text mail u fs (leaf h ls) there done = beside_new path text (tree mail) u fs (leaf h ls) there done
any_new eol path text mail u fs (message h x) there done = beside_new path text (tree mail) u fs (message h x) there done
any_new eol path text mail u fs (multi h b pre ps tail) there done = multi_new eol path text mail u fs (multi h b pre ps tail) there tt done

there_new : (eol : Ending) (path text mail : List ℕ) (u : Document) (p : Placed) (o : Option (List Frame × Entity)) → place_of path (tree mail).root ≡ o → option_map (λ r. placed (tree mail).envelope r.0 r.1) o ≡ Some p
    → all_edited (appended eol path text p) (tree mail) ≡ Ok u → IsNew text (follows_last p) (section_at (path ++ new_number p ∷ []) u)
there_new eol path text mail u p None there is done = none_some p is
there_new eol path text mail u p (Some r) there is done =
    let t = tree mail in
    let same : placed t.envelope r.0 r.1 ≡ p = some_same (placed t.envelope r.0 r.1) p is in
    subst (λ x. IsNew text (follows_last x) (section_at (path ++ new_number x ∷ []) u)) same
    (any_new eol path text mail u r.0 r.1 there (ap (λ x. all_edited (appended eol path text x) t) same ∙ done))

-- the section at the new number
pub appended_new : (eol : Ending) (path text mail : List ℕ) (u : Document) (p : Placed) → section_at path (tree mail) ≡ Some p → all_edited (appended eol path text p) (tree mail) ≡ Ok u
    → IsNew text (follows_last p) (section_at (path ++ new_number p ∷ []) u)
appended_new eol path text mail u p found done = there_new eol path text mail u p (place_of path (tree mail).root) refl (sym (section_there path (tree mail)) ∙ found) done
