-- `append` leaves what is extracted of each leaf that was there.
use Rattle.std.proofs.Common.{◌≡◌, ◌≢◌, ◌⊎◌, ◌==◌, ◌≤◌, ◌||◌, ◌+◌, ◌++◌, if◌then◌else◌, ℕ, zero, suc, Bool, true, false, nat_le, length, Option, None, Some, Ok, List, [], ◌∷◌, refl, ap, sym, ◌∙◌, subst, inl, inr, option_and_then}
use Rattle.std.proofs.lemmas.Bool.{cases_Bool, le-leb}
use Rattle.std.specs.Option.{option_map}
use Rattle.mk_line.specs.declared.cutting.Ending.{Ending}
use Rattle.mk_line.specs.declared.cutting.Ending.TheVariants.{Missing}
use Rattle.mk_line.specs.Lines.{TextLine, cut, eol_of, text_of}
use Rattle.mk_line.specs.Marks.{delimiter_line}
use Rattle.mk_line.proofs.Cuts.{cut_text}
use Rattle.mk_head.specs.Split.{Head, head_lines}
use Rattle.mk_head.specs.Fields.{counted}
use Rattle.mk_tree.specs.Documents.{Document, IsStable, document_lines, levels, tree}
use Rattle.mk_tree.specs.Places.{Frame, in_multi, append_parts, default_at, left_at, part_at, place_at, placed, plug, put}
use Rattle.mk_tree.specs.Sections.{Placed, children, has_part, parts_placed, raw_of, section_at}
use Rattle.mk_tree.proofs.TreeNames.{has_tail}
use Rattle.mk_tree.specs.Spans.{digest_below, size}
use Rattle.mk_tree.specs.Tree.{Entity, leaf, message, multi, Parts, no_parts, part, print, read}
use Rattle.mk_tree.proofs.FieldsChanged.{stable_well}
use Rattle.mk_tree.proofs.Placed.{place_plug}
use Rattle.mk_tree.proofs.Plugs.{own_of}
use Rattle.mk_tree.proofs.Stability.{read_stable}
use Rattle.mk_tree.proofs.WellRead.{well_read}
use Rattle.mk_decide.specs.Edits.{InsertPart, SetSection}
use Rattle.mk_decide.specs.EditLaws.{IsLeaf}
use Rattle.mk_decide.specs.Outcomes.{edited}
use Rattle.mk_decide.specs.Plans.{Plan, part_plan, parts_at, place_of, plan_of}
use Rattle.mk_decide.proofs.PlanNames.{insert_between, part_read, read_plan}
use Rattle.mk_decide.proofs.Accepted.{none_some, ok_same, plan_by, some_same, there_again}
use Rattle.mk_decide.proofs.EveryEdit.{plan_there}
use Rattle.mk_decide.proofs.FieldFits.{entity_are}
use Rattle.mk_decide.proofs.Late.{fair}
use Rattle.mk_decide.proofs.PlacesAgain.{PathAgain, below_place, path_again, section_there}
use Rattle.mk_decide.proofs.SectionSites.{site}
use Rattle.mk_view.specs.Extracts.{IsExtract}
use Rattle.mk_expand.specs.Appends.{appended, divided_at, last_divided}
use Rattle.mk_view.specs.Listed.{greatest_number}
use Rattle.mk_expand.specs.Contents.{divided}
use Rattle.mk_expand.specs.ExpandLaws.{IsMultipart, all_edited}
use Rattle.mk_expand.proofs.EncodingsKept.{in_turn, last_edit}
use Rattle.mk_build.proofs.EndedTexts.{Grows}
use Rattle.mk_expand.proofs.GrownTexts.{grown_divided}
use Rattle.mk_expand.proofs.KeptContents.{Keeps, KeepParts, keeps_same, read_kept}
use Rattle.mk_expand.proofs.KeptPlaces.{contents_kept, flag, flag_line, keeps_by, plug_keeps, some_part}

-- how many parts there are
unfoldable pub count : Parts → ℕ
count no_parts = zero
count (part l e ps) = suc (count ps)

pub parts_all : (ps : Parts) → parts_at (count ps) ps ≡ Some (ps, no_parts)
unfolding count
parts_all no_parts = refl
parts_all (part l e ps) = ap (option_map (λ (q : Parts × Parts). (part l e q.0, q.1))) (parts_all ps)

pub placed_count : (place : ℕ) (f digest : Bool) (ps : Parts) → length (parts_placed place f digest ps) ≡ count ps
unfolding count
placed_count place f digest no_parts = refl
placed_count place f digest (part l e ps) = ap suc (placed_count (place + size (l ∷ []) + size (print e)) f digest ps)

-- the last part
last_at : (before : Parts) (l : TextLine) (e : Entity) → part_at (count (append_parts before (part l e no_parts))) (append_parts before (part l e no_parts)) ≡ Some (before, l, e, no_parts)
unfolding count
last_at no_parts l e = refl
last_at (part m x no_parts) l e = refl
last_at (part m x (part n y ps)) l e = ap (option_map (λ (q : Parts × TextLine × Entity × Parts). (part m x q.0, q.1, q.2, q.3))) (last_at (part n y ps) l e)

pub record LastPlaced (f : Bool) (e : Entity) (o : Option Placed) : Type 0 where
  pub last : Placed
  pub found : o ≡ Some last
  pub followed : last.followed ≡ f
  pub entity : last.entity ≡ e

pub last_placed : (place : ℕ) (f digest : Bool) (before : Parts) (l : TextLine) (e : Entity)
    → LastPlaced f e (counted (count (append_parts before (part l e no_parts))) (parts_placed place f digest (append_parts before (part l e no_parts))))
unfolding count
last_placed place f digest no_parts l e = record { last = _; found = refl; followed = refl; entity = refl }
last_placed place f digest (part m x no_parts) l e = record { last = _; found = refl; followed = refl; entity = refl }
last_placed place f digest (part m x (part n y ps)) l e = last_placed (place + size (m ∷ []) + size (print x)) f digest (part n y ps) l e

pub last_parts : (ps : Parts) → (ps ≡ no_parts) ⊎ ((before : Parts) × (l : TextLine) × (e : Entity) × (ps ≡ append_parts before (part l e no_parts)))
last_parts no_parts = inl refl
last_parts (part l e ps) = elim (last_parts ps) [
  | inl none ↦ inr (no_parts, l, e, ap (λ qs. part l e qs) none)
  | inr some ↦ inr (part l e some.0, some.1, some.2, ap (λ qs. part l e qs) some.3)
]

or_true : (a : Bool) → (a || true) ≡ true
or_true true = refl
or_true false = refl

first_kept : (a c : Bool) (e : Entity) → c ≡ true → Keeps (a || true) e (c || true) e
first_kept a c e h = subst (λ x. Keeps x e (c || true) e) (sym (or_true a)) (subst (λ y. Keeps true e y e) (sym (or_true c)) (keeps_same true e))

-- a part more, where a line followed the last, or none was there
more_parts : (ps : Parts) (d : TextLine) (x : Entity) → KeepParts true ps true (append_parts ps (part d x no_parts))
more_parts no_parts d x = tt
more_parts (part l e ps) d x = (first_kept (has_part ps) (has_part (append_parts ps (part d x no_parts))) e (some_part ps d x no_parts), more_parts ps d x)

-- a part more after the last, which got an ending
grown_parts : (before : Parts) (l d : TextLine) (e grown x : Entity) → Keeps false e true grown
    → KeepParts false (append_parts before (part l e no_parts)) false (append_parts (append_parts before (part l grown no_parts)) (part d x no_parts))
grown_parts no_parts l d e grown x k = (k, tt)
grown_parts (part m y ps) l d e grown x k = (
  keeps_by (has_part (append_parts ps (part l e no_parts))) (has_part (append_parts (append_parts ps (part l grown no_parts)) (part d x no_parts))) false y (some_part ps l e no_parts) (some_part (append_parts ps (part l grown no_parts)) d x no_parts),
  grown_parts ps l d e grown x k,
)

none_place : {A : Type 0} (q : List Frame × Entity) → ◌≡◌ {A = Option (List Frame × Entity)} None (Some q) → A
none_place q e = cc

pub place_whole : (path : List ℕ) (root : Entity) (fs : List Frame) (s : Entity) → place_of path root ≡ Some (fs, s) → plug fs s ≡ root
place_whole [] root fs s e = none_place (fs, s) e
place_whole (k ∷ ks) root fs s e = elim (cases_Bool (k == 1)) [
  | inl h ↦ place_plug ks root fs s (rw h at e)
  | inr h ↦ none_place (fs, s) (rw h at e)
]

-- a part is inserted after the others
record Inserted (fs : List Frame) (h : Head) (b : List ℕ) (pre : List TextLine) (ps : Parts) (t : Option (TextLine × List TextLine)) (u : Document) : Type 0 where
  delimiter : TextLine
  given : Entity
  root : u.root ≡ plug fs (multi h b pre (append_parts ps (part delimiter given no_parts)) t)

inserted : (path text : List ℕ) (t u : Document) (fs : List Frame) (h : Head) (b : List ℕ) (pre : List TextLine) (ps : Parts) (tail : Option (TextLine × List TextLine)) → place_of path t.root ≡ Some (fs, multi h b pre ps tail)
    → edited (InsertPart path (count ps) text) t ≡ Ok u → Inserted fs h b pre ps tail u
inserted path text t u fs h b pre ps tail there done =
    let e = InsertPart path (count ps) text in
    let eol = eol_of (document_lines t) in
    let plan = plan_by t u e (plan_of e t) refl (fair e t) done in
    let is : insert_between eol fs h b pre tail (cut text) (parts_at (count ps) ps) ≡ Ok plan.plan = plan_there e t fs (multi h b pre ps tail) plan.plan there plan.is in
    let same : part_plan eol fs h b pre tail (cut text) (ps, no_parts) ≡ plan.plan = ok_same (part_plan eol fs h b pre tail (cut text) (ps, no_parts)) plan.plan (ap (insert_between eol fs h b pre tail (cut text)) (sym (parts_all ps)) ∙ is) in
    record { delimiter = delimiter_line eol b; given = part_read fs h (cut text); root = ap (λ (d : Document). d.root) plan.gives ∙ ap (λ (p : Plan). plug p.around p.new) (sym same) }

-- the place of the last part
unfoldable pub around_last : List Frame → Head → List ℕ → List TextLine → Parts → TextLine → Option (TextLine × List TextLine) → List Frame
around_last fs h b pre before l tail = fs ++ in_multi h b pre before l no_parts tail ∷ []

pub last_there : (path : List ℕ) (root : Entity) (fs : List Frame) (h : Head) (b : List ℕ) (pre : List TextLine) (before : Parts) (l : TextLine) (e : Entity) (tail : Option (TextLine × List TextLine)) → place_of path root ≡ Some (fs, multi h b pre (append_parts before (part l e no_parts)) tail)
    → place_of (path ++ count (append_parts before (part l e no_parts)) ∷ []) root ≡ Some (around_last fs h b pre before l tail, e)
unfolding around_last
last_there path root fs h b pre before l e tail there =
    let s = multi h b pre (append_parts before (part l e no_parts)) tail in
    let n = count (append_parts before (part l e no_parts)) in
    let again : PathAgain path (Some (fs, s)) = subst (PathAgain path) there (path_again path root) in
    ap (place_of (path ++ n ∷ [])) (sym (place_whole path root fs s there))
    ∙ (again (n ∷ []) s
    ∙ ap (λ o. below_place fs (option_and_then (λ (p : Frame × Entity). option_map (λ (q : List Frame × Entity). (p.0 ∷ q.0, q.1)) (place_at [] p.1)) (option_map (λ (q : Parts × TextLine × Entity × Parts). (in_multi h b pre q.0 q.1 q.3 tail, q.2)) o))) (last_at before l e))

plug_after : (fs gs : List Frame) (e : Entity) → plug (fs ++ gs) e ≡ plug fs (plug gs e)
plug_after [] gs e = refl
plug_after (f ∷ fs) gs e = ap (λ x. plug (f ∷ []) x) (plug_after fs gs e)

-- the last part is another
pub set_last : (path text : List ℕ) (t u : Document) (fs : List Frame) (h : Head) (b : List ℕ) (pre : List TextLine) (before : Parts) (l : TextLine) (e : Entity) (tail : Option (TextLine × List TextLine)) → place_of path t.root ≡ Some (fs, multi h b pre (append_parts before (part l e no_parts)) tail)
    → edited (SetSection (path ++ count (append_parts before (part l e no_parts)) ∷ []) text) t ≡ Ok u
    → u.root ≡ plug fs (multi h b pre (append_parts before (part l (read (left_at levels (around_last fs h b pre before l tail)) (default_at false (around_last fs h b pre before l tail)) (cut text)) no_parts)) tail)
unfolding around_last
set_last path text t u fs h b pre before l e tail there done =
    let set = SetSection (path ++ count (append_parts before (part l e no_parts)) ∷ []) text in
    let around = around_last fs h b pre before l tail in
    let plan = plan_by t u set (plan_of set t) refl (fair set t) done in
    let same : read_plan around (cut text) ≡ plan.plan = ok_same (read_plan around (cut text)) plan.plan (plan_there set t around e plan.plan (last_there path t.root fs h b pre before l e tail there) plan.is) in
    ap (λ (d : Document). d.root) plan.gives
    ∙ (ap (λ (p : Plan). plug p.around p.new) (sym same)
    ∙ plug_after fs (in_multi h b pre before l no_parts tail ∷ []) (read (left_at levels around) (default_at false around) (cut text)))

-- the last part with an ending after it
last_grown : (eol : Ending) (mail path : List ℕ) (fs : List Frame) (e : Entity) → eol ≢ Missing → place_of path (tree mail).root ≡ Some (fs, e)
    → Keeps false e true (read (left_at levels fs) (default_at false fs) (cut (divided eol (text_of (print e)))))
last_grown eol mail path fs e n there =
    let t = tree mail in
    let p = placed t.envelope fs e in
    let found : section_at path t ≡ Some p = section_there path t ∙ ap (option_map (λ (q : List Frame × Entity). placed t.envelope q.0 q.1)) there in
    let lines = cut_text (print e) (entity_are mail path p (site mail path p found)) in
    let whole : put t.envelope fs e ≡ t = λ i. record { envelope = t.envelope; root = place_whole path t.root fs e there i } in
    let well = own_of levels false fs e (stable_well t.envelope fs e (subst IsStable (sym whole) (read_stable mail))) in
    let given = divided eol (text_of (print e)) in
    let grown : Grows (print e) (cut given) = subst (λ ls. Grows ls (cut given)) lines (grown_divided eol (text_of (print e)) n) in
    subst (λ x. Keeps false x true (read (left_at levels fs) (default_at false fs) (cut given))) (well_read (left_at levels fs) (default_at false fs) e well)
    (read_kept (left_at levels fs) (default_at false fs) (print e) (cut given) (inl grown))

-- what was made of a multipart keeps what is extracted
told : (path other bytes : List ℕ) (t u : Document) (fs : List Frame) (x y : Entity) (q : Placed) → place_of path t.root ≡ Some (fs, x) → u.root ≡ plug fs y → Keeps (flag false fs) x (flag false fs) y
    → section_at other t ≡ Some q → IsLeaf q.entity → IsExtract (Some q) bytes → IsExtract (section_at other u) bytes
told path other bytes t u fs x y q there is keeps at l extract =
    contents_kept other bytes t u q
    (subst (λ r. Keeps false r false u.root) (place_whole path t.root fs x there) (subst (λ r. Keeps false (plug fs x) false r) (sym is) (plug_keeps false fs x y keeps)))
    at l extract

-- where a line follows the last part, or there is none
after_followed : (path text other bytes : List ℕ) (t u : Document) (fs : List Frame) (h : Head) (b : List ℕ) (pre : List TextLine) (ps : Parts) (tail : Option (TextLine × List TextLine)) (q : Placed) → place_of path t.root ≡ Some (fs, multi h b pre ps tail)
    → ((d : TextLine) (x : Entity) → KeepParts (has_tail tail || flag false fs) ps (has_tail tail || flag false fs) (append_parts ps (part d x no_parts))) → all_edited (InsertPart path (count ps) text ∷ []) t ≡ Ok u
    → section_at other t ≡ Some q → IsLeaf q.entity → IsExtract (Some q) bytes → IsExtract (section_at other u) bytes
after_followed path text other bytes t u fs h b pre ps tail q there keeps done at l extract =
    let made = inserted path text t u fs h b pre ps tail there (last_edit (InsertPart path (count ps) text) t u done) in
    told path other bytes t u fs (multi h b pre ps tail) (multi h b pre (append_parts ps (part made.delimiter made.given no_parts)) tail) q there made.root (keeps made.delimiter made.given) at l extract

pub count_last : (before : Parts) (l : TextLine) (x y : Entity) → count (append_parts before (part l x no_parts)) ≡ count (append_parts before (part l y no_parts))
unfolding count
count_last no_parts l x y = refl
count_last (part m z ps) l x y = ap suc (count_last ps l x y)

-- where nothing follows the last part, which gets an ending
after_open : (eol : Ending) (path text mail other bytes : List ℕ) (u : Document) (fs : List Frame) (h : Head) (b : List ℕ) (pre : List TextLine) (before : Parts) (l : TextLine) (e : Entity) (tail : Option (TextLine × List TextLine)) (q : Placed) → eol ≢ Missing
    → place_of path (tree mail).root ≡ Some (fs, multi h b pre (append_parts before (part l e no_parts)) tail) → (has_tail tail || flag false fs) ≡ false
    → all_edited (SetSection (path ++ count (append_parts before (part l e no_parts)) ∷ []) (divided eol (text_of (print e))) ∷ (InsertPart path (count (append_parts before (part l e no_parts))) text ∷ [])) (tree mail) ≡ Ok u
    → section_at other (tree mail) ≡ Some q → IsLeaf q.entity → IsExtract (Some q) bytes → IsExtract (section_at other u) bytes
after_open eol path text mail other bytes u fs h b pre before l e tail q n there ends done at leaf_at extract =
    let t = tree mail in
    let ps = append_parts before (part l e no_parts) in
    let given = divided eol (text_of (print e)) in
    let set = SetSection (path ++ count ps ∷ []) given in
    let around = around_last fs h b pre before l tail in
    let grown = read (left_at levels around) (default_at false around) (cut given) in
    let made = in_turn (all_edited (InsertPart path (count ps) text ∷ [])) (edited set t) u done in
    let now = append_parts before (part l grown no_parts) in
    let root = set_last path given t made.0 fs h b pre before l e tail there made.1 in
    let place : place_of path made.0.root ≡ Some (fs, multi h b pre now tail) = ap (place_of path) root ∙ there_again path t.root fs (multi h b pre ps tail) (multi h b pre now tail) there in
    let last = subst (λ k. edited (InsertPart path k text) made.0 ≡ Ok u) (count_last before l e grown) (last_edit (InsertPart path (count ps) text) made.0 u made.2) in
    let more = inserted path text made.0 u fs h b pre now tail place last in
    let kept = last_grown eol mail (path ++ count ps ∷ []) around e n (last_there path t.root fs h b pre before l e tail there) in
    let parts = grown_parts before l more.delimiter e grown more.given kept in
    told path other bytes t u fs (multi h b pre ps tail) (multi h b pre (append_parts now (part more.delimiter more.given no_parts)) tail) q there more.root
    (subst (λ f. KeepParts f ps f (append_parts now (part more.delimiter more.given no_parts))) (sym ends) parts) at leaf_at extract

-- what `append` stands for
pub edits_told : (eol : Ending) (path text : List ℕ) (o : Option Placed) (f : Bool) (e : Entity) (n : ℕ) → LastPlaced f e o → divided_at eol (path ++ n ∷ []) o ++ InsertPart path n text ∷ []
    ≡ (if f then [] else SetSection (path ++ n ∷ []) (divided eol (text_of (print e))) ∷ []) ++ InsertPart path n text ∷ []
edits_told eol path text o f e n last =
    ap (λ x. divided_at eol (path ++ n ∷ []) x ++ InsertPart path n text ∷ []) last.found
    ∙ (ap (λ t. (if t then [] else SetSection (path ++ n ∷ []) (divided eol (raw_of last.last)) ∷ []) ++ InsertPart path n text ∷ []) last.followed
    ∙ ap (λ x. (if f then [] else SetSection (path ++ n ∷ []) (divided eol (text_of (print x))) ∷ []) ++ InsertPart path n text ∷ []) last.entity)

after_last : (eol : Ending) (path text mail other bytes : List ℕ) (u : Document) (fs : List Frame) (h : Head) (b : List ℕ) (pre : List TextLine) (before : Parts) (l : TextLine) (e : Entity) (tail : Option (TextLine × List TextLine)) (q : Placed) (f : Bool) → eol ≢ Missing
    → place_of path (tree mail).root ≡ Some (fs, multi h b pre (append_parts before (part l e no_parts)) tail) → (has_tail tail || flag false fs) ≡ f
    → all_edited ((if f then [] else SetSection (path ++ count (append_parts before (part l e no_parts)) ∷ []) (divided eol (text_of (print e))) ∷ []) ++ InsertPart path (count (append_parts before (part l e no_parts))) text ∷ []) (tree mail) ≡ Ok u
    → section_at other (tree mail) ≡ Some q → IsLeaf q.entity → IsExtract (Some q) bytes → IsExtract (section_at other u) bytes
after_last eol path text mail other bytes u fs h b pre before l e tail q true n there is done at leaf_at extract =
    let ps = append_parts before (part l e no_parts) in
    after_followed path text other bytes (tree mail) u fs h b pre ps tail q there
    (λ d x. subst (λ f. KeepParts f ps f (append_parts ps (part d x no_parts))) (sym is) (more_parts ps d x)) done at leaf_at extract
after_last eol path text mail other bytes u fs h b pre before l e tail q false n there is done at leaf_at extract =
    after_open eol path text mail other bytes u fs h b pre before l e tail q n there is done at leaf_at extract

-- a multipart without parts
no_parts_there : (eol : Ending) (path text mail other bytes : List ℕ) (u : Document) (fs : List Frame) (h : Head) (b : List ℕ) (pre : List TextLine) (ps : Parts) (tail : Option (TextLine × List TextLine)) (q : Placed) (place : ℕ) (digest : Bool) → ps ≡ no_parts
    → place_of path (tree mail).root ≡ Some (fs, multi h b pre ps tail)
    → all_edited (last_divided eol path (count ps) (parts_placed place (has_tail tail || flag false fs) digest ps) ++ InsertPart path (count ps) text ∷ []) (tree mail) ≡ Ok u
    → section_at other (tree mail) ≡ Some q → IsLeaf q.entity → IsExtract (Some q) bytes → IsExtract (section_at other u) bytes
unfolding count
no_parts_there eol path text mail other bytes u fs h b pre ps tail q place digest none there done at leaf_at extract =
    after_followed path text other bytes (tree mail) u fs h b pre no_parts tail q (there ∙ ap (λ x. Some (fs, multi h b pre x tail)) none) (λ d x. tt)
    (subst (λ x. all_edited (last_divided eol path (count x) (parts_placed place (has_tail tail || flag false fs) digest x) ++ InsertPart path (count x) text ∷ []) (tree mail) ≡ Ok u) none done) at leaf_at extract

-- a multipart with parts or none
after_parts_of : (eol : Ending) (path text mail other bytes : List ℕ) (u : Document) (fs : List Frame) (h : Head) (b : List ℕ) (pre : List TextLine) (ps : Parts) (tail : Option (TextLine × List TextLine)) (q : Placed) (place : ℕ) (digest : Bool) → eol ≢ Missing
    → place_of path (tree mail).root ≡ Some (fs, multi h b pre ps tail)
    → all_edited (last_divided eol path (count ps) (parts_placed place (has_tail tail || flag false fs) digest ps) ++ InsertPart path (count ps) text ∷ []) (tree mail) ≡ Ok u
    → section_at other (tree mail) ≡ Some q → IsLeaf q.entity → IsExtract (Some q) bytes → IsExtract (section_at other u) bytes
after_parts_of eol path text mail other bytes u fs h b pre ps tail q place digest n there done at leaf_at extract = elim (last_parts ps) [
  | inl none ↦ no_parts_there eol path text mail other bytes u fs h b pre ps tail q place digest none there done at leaf_at extract
  | inr some ↦
      let all = append_parts some.0 (part some.1 some.2 no_parts) in
      let f = has_tail tail || flag false fs in
      let there' : place_of path (tree mail).root ≡ Some (fs, multi h b pre all tail) = there ∙ ap (λ x. Some (fs, multi h b pre x tail)) some.3 in
      let done' : all_edited (last_divided eol path (count all) (parts_placed place f digest all) ++ InsertPart path (count all) text ∷ []) (tree mail) ≡ Ok u =
      subst (λ x. all_edited (last_divided eol path (count x) (parts_placed place f digest x) ++ InsertPart path (count x) text ∷ []) (tree mail) ≡ Ok u) some.3 done in
      after_last eol path text mail other bytes u fs h b pre some.0 some.1 some.2 tail q f n there' refl
      (ap (λ es. all_edited es (tree mail)) (sym (edits_told eol path text _ f some.2 (count all) (last_placed place f digest some.0 some.1 some.2))) ∙ done') at leaf_at extract
]

multi_told : (eol : Ending) (path text mail other bytes : List ℕ) (u : Document) (fs : List Frame) (s : Entity) (q : Placed) → eol ≢ Missing → place_of path (tree mail).root ≡ Some (fs, s) → IsMultipart s
    → length (children (placed (tree mail).envelope fs s)) ≤ greatest_number → all_edited (appended eol path text (placed (tree mail).envelope fs s)) (tree mail) ≡ Ok u
    → section_at other (tree mail) ≡ Some q → IsLeaf q.entity → IsExtract (Some q) bytes → IsExtract (section_at other u) bytes
multi_told eol path text mail other bytes u fs (leaf h ls) q n there m few done at leaf_at extract = absurd m
multi_told eol path text mail other bytes u fs (message h x) q n there m few done at leaf_at extract = absurd m
multi_told eol path text mail other bytes u fs (multi h b pre ps tail) q n there m few done at leaf_at extract =
    let t = tree mail in
    let p = placed t.envelope fs (multi h b pre ps tail) in
    let parts = children p in
    let size_is : length parts ≡ count ps = placed_count _ _ _ ps in
    let fits : nat_le (length parts) greatest_number ≡ true = le-leb (length parts) greatest_number few in
    let within : all_edited (last_divided eol path (length parts) parts ++ InsertPart path (length parts) text ∷ []) t ≡ Ok u =
    ap (λ x. all_edited (if x then last_divided eol path (length parts) parts ++ InsertPart path (length parts) text ∷ [] else InsertPart path greatest_number text ∷ []) t) (sym fits) ∙ done in
    let counted_so : all_edited (last_divided eol path (count ps) parts ++ InsertPart path (count ps) text ∷ []) t ≡ Ok u = subst (λ k. all_edited (last_divided eol path k parts ++ InsertPart path k text ∷ []) t ≡ Ok u) size_is within in
    after_parts_of eol path text mail other bytes u fs h b pre ps tail q (p.start + size (head_lines h) + size pre) (digest_below p.digest h) n there
    (subst (λ f. all_edited (last_divided eol path (count ps) (parts_placed (p.start + size (head_lines h) + size pre) (has_tail tail || f) (digest_below p.digest h) ps) ++ InsertPart path (count ps) text ∷ []) t ≡ Ok u) (flag_line fs) counted_so) at leaf_at extract

there_told : (eol : Ending) (path text mail other bytes : List ℕ) (u : Document) (p q : Placed) (o : Option (List Frame × Entity)) → eol ≢ Missing → place_of path (tree mail).root ≡ o → option_map (λ r. placed (tree mail).envelope r.0 r.1) o ≡ Some p
    → IsMultipart p.entity → length (children p) ≤ greatest_number → all_edited (appended eol path text p) (tree mail) ≡ Ok u
    → section_at other (tree mail) ≡ Some q → IsLeaf q.entity → IsExtract (Some q) bytes → IsExtract (section_at other u) bytes
there_told eol path text mail other bytes u p q None n there is m few done at leaf_at extract = none_some p is
there_told eol path text mail other bytes u p q (Some r) n there is m few done at leaf_at extract =
    let t = tree mail in
    let same : placed t.envelope r.0 r.1 ≡ p = some_same (placed t.envelope r.0 r.1) p is in
    multi_told eol path text mail other bytes u r.0 r.1 q n there (subst (λ (x : Placed). IsMultipart x.entity) (sym same) m) (subst (λ x. length (children x) ≤ greatest_number) (sym same) few)
    (ap (λ x. all_edited (appended eol path text x) t) same ∙ done) at leaf_at extract

pub appends_kept : (eol : Ending) (path text mail other bytes : List ℕ) (u : Document) (p q : Placed) → eol ≢ Missing → section_at path (tree mail) ≡ Some p → IsMultipart p.entity → length (children p) ≤ greatest_number → all_edited (appended eol path text p) (tree mail) ≡ Ok u → section_at other (tree mail) ≡ Some q → IsLeaf q.entity → IsExtract (Some q) bytes → IsExtract (section_at other u) bytes
appends_kept eol path text mail other bytes u p q n found m few done at leaf_at extract =
    there_told eol path text mail other bytes u p q (place_of path (tree mail).root) n refl (sym (section_there path (tree mail)) ∙ found) m few done at leaf_at extract
