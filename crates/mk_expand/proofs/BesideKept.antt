-- A leaf that a part was put beside has, as the first part of their multipart, the content that it had.
use Rattle.std.proofs.Common.{◌≡◌, ◌++◌, if◌then◌else◌, ℕ, Bool, true, false, Option, None, Some, Ok, List, [], ◌∷◌, codes, refl, ap, sym, ◌∙◌, subst, option_and_then}
use Rattle.std.specs.Option.{option_map}
use Rattle.mk_line.specs.Lines.{TextLine, cut, eol_of, text_of}
use Rattle.mk_line.specs.Marks.{close_line, delimiter_line}
use Rattle.mk_tree.specs.Documents.{Document, document_lines}
use Rattle.mk_tree.specs.Places.{Frame, append_parts, in_multi, place_at, placed, plug}
use Rattle.mk_tree.specs.Sections.{Placed, body_lines, content_text, section_at, unended}
use Rattle.mk_tree.specs.Tree.{Entity, multi, Parts, no_parts, part}
use Rattle.mk_decide.specs.EditLaws.{IsLeaf}
use Rattle.mk_decide.specs.Plans.{place_of}
use Rattle.mk_decide.specs.Wrapping.{inner_part, outer_head, wrapped}
use Rattle.mk_decide.proofs.PlanNames.{part_read}
use Rattle.mk_decide.proofs.Accepted.{none_some, some_same}
use Rattle.mk_decide.proofs.PlacesAgain.{PathAgain, path_again, section_there}
use Rattle.mk_decide.proofs.WrapContent.{wrapping_keeps_lem}
use Rattle.mk_expand.specs.Appends.{beside}
use Rattle.mk_expand.specs.ExpandLaws.{all_edited}
use Rattle.mk_expand.proofs.KeptPlaces.{flag, flag_line}
use Rattle.mk_expand.proofs.AppendsKept.{place_whole}
use Rattle.mk_expand.proofs.NewParts.{IsBeside, flag_after, inserted, put_beside}

-- the content of a section by what counts for it
content_by : (f : Bool) (e : Entity) (p : Placed) → p.followed ≡ f → p.entity ≡ e → content_text p ≡ text_of (if f then unended (body_lines e) else body_lines e)
content_by f e p h k = λ i. text_of (if h i then unended (body_lines (k i)) else body_lines (k i))

-- the first part of a multipart that a place leads to, which something follows
first_there : (path : List ℕ) (d : Document) (fs : List Frame) (s new : Entity) (frame : Frame) (e : Entity) → (t : Document) → place_of path t.root ≡ Some (fs, s) → d.root ≡ plug fs new → place_at (1 ∷ []) new ≡ Some (frame ∷ [], e) → flag true (frame ∷ []) ≡ true
    → flag false (frame ∷ []) ≡ true → option_map content_text (section_at (path ++ 1 ∷ []) d) ≡ Some (text_of (unended (body_lines e)))
first_there path d fs s new frame e t there root within follows alone =
    let again : PathAgain path (Some (fs, s)) = subst (PathAgain path) there (path_again path t.root) in
    let found : place_of (path ++ 1 ∷ []) d.root ≡ Some (fs ++ frame ∷ [], e) = ap (place_of (path ++ 1 ∷ [])) root ∙ (again (1 ∷ []) new ∙ ap (λ o. option_map (λ (q : List Frame × Entity). (fs ++ q.0, q.1)) o) within) in
    let p = placed d.envelope (fs ++ frame ∷ []) e in
    let followed : p.followed ≡ true = flag_line (fs ++ frame ∷ []) ∙ (flag_after false fs (frame ∷ []) ∙ any_flag (flag false fs) frame follows alone) in
    ap (option_map content_text) (section_there (path ++ 1 ∷ []) d ∙ ap (option_map (λ (r : List Frame × Entity). placed d.envelope r.0 r.1)) found)
    ∙ ap (λ x. Some x) (content_by true e p followed refl)
  where
    any_flag : (f : Bool) (frame : Frame) → flag true (frame ∷ []) ≡ true → flag false (frame ∷ []) ≡ true → flag f (frame ∷ []) ≡ true
    any_flag true frame h k = h
    any_flag false frame h k = k

-- the first part, before and after the other part was inserted
either_there : (path text : List ℕ) (t u : Document) (fs : List Frame) (s : Entity) → place_of path t.root ≡ Some (fs, s) → (is : IsBeside path text t u fs s)
    → option_map content_text (section_at (path ++ 1 ∷ []) u) ≡ option_map content_text (section_at (path ++ 1 ∷ []) is.made)
either_there path text t u fs s there is =
    let eol = eol_of (document_lines t) in
    let h = outer_head eol fs s (codes "mixed") is.boundary in
    let d = delimiter_line eol is.boundary in
    let e = inner_part eol fs s in
    let tail = Some (close_line eol is.boundary, []) in
    let i = inserted path text 1 is.made u fs h is.boundary [] (part d e no_parts) tail is.there is.inserts in
    let x = part_read fs h (cut text) in
    let same : ◌≡◌ {A = Option (Parts × Parts)} (Some i.apart) (Some (part d e no_parts, no_parts)) = sym i.at in
    let apart : i.apart ≡ (part d e no_parts, no_parts) = cc in
    let new = multi h is.boundary [] (part d e (part i.delimiter x no_parts)) tail in
    let root : u.root ≡ plug fs new = i.root ∙ ap (λ (q : Parts × Parts). plug fs (multi h is.boundary [] (append_parts q.0 (part i.delimiter x q.1)) tail)) apart in
    let before = wrapped eol fs s (codes "mixed") is.boundary in
    let last = first_there path u fs before new (in_multi h is.boundary [] no_parts d (part i.delimiter x no_parts) tail) e is.made is.there root refl refl refl in
    let first = first_there path is.made fs before before (in_multi h is.boundary [] no_parts d no_parts tail) e is.made is.there (sym (place_whole path is.made.root fs before is.there)) refl refl refl in
    last ∙ sym first

kept_at : (path text : List ℕ) (t u : Document) (p : Placed) (o : Option (List Frame × Entity)) → section_at path t ≡ Some p → IsLeaf p.entity → place_of path t.root ≡ o → option_map (λ r. placed t.envelope r.0 r.1) o ≡ Some p
    → all_edited (beside path text p) t ≡ Ok u → option_map content_text (section_at (path ++ 1 ∷ []) u) ≡ Some (content_text p)
kept_at path text t u p None found l there is done = none_some p is
kept_at path text t u p (Some r) found l there is done =
    let same : placed t.envelope r.0 r.1 ≡ p = some_same (placed t.envelope r.0 r.1) p is in
    let put = put_beside path text t u r.0 r.1 there (ap (λ x. all_edited (beside path text x) t) same ∙ done) in
    either_there path text t u r.0 r.1 there put ∙ wrapping_keeps_lem path (codes "mixed") put.boundary t put.made p found l put.wraps

pub beside_kept : (path text : List ℕ) (t u : Document) (p : Placed) → section_at path t ≡ Some p → IsLeaf p.entity → all_edited (beside path text p) t ≡ Ok u → option_map content_text (section_at (path ++ 1 ∷ []) u) ≡ Some (content_text p)
beside_kept path text t u p found l done = kept_at path text t u p (place_of path t.root) found l refl (sym (section_there path t) ∙ found) done
