-- A leaf that `content` gives some bytes has them as its content.
use Rattle.std.proofs.Common.{◌≡◌, ◌≢◌, ◌++◌, if◌then◌else◌, ℕ, Bool, true, false, Option, None, Some, IfSome, Result, Ok, Err, List, [], ◌∷◌, refl, ap, sym, ◌∙◌, subst, append-nil, append_assoc, inl, inr}
use Rattle.std.proofs.lemmas.Bool.{cases_Bool}
use Rattle.std.specs.Option.{option_map}
use Rattle.base64.specs.GeneralPurpose.{IsBytes}
use Rattle.mk_line.specs.declared.cutting.Ending.{Ending}
use Rattle.mk_line.specs.declared.cutting.Ending.TheVariants.{Crlf, Lf, Missing}
use Rattle.mk_line.specs.Lines.{TextLine, cut, ending_bytes, ends_in_return, eol_of, text_of, is_nil}
use Rattle.mk_line.proofs.Cuts.{text_cut}
use Rattle.mk_head.specs.declared.encodings.Encoding.{Encoding}
use Rattle.mk_head.specs.declared.encodings.Encoding.TheVariants.{Identity, Qp, Base64, Other}
use Rattle.mk_head.specs.Split.{Head}
use Rattle.std.specs.Prelude.{not}
use Rattle.mk_code.specs.Contents.{IsContent}
use Rattle.mk_code.proofs.Base64Laws.{base64_back}
use Rattle.mk_code.proofs.QpBack.{qp_back}
use Rattle.mk_tree.specs.Tree.{Entity, leaf, message, multi}
use Rattle.mk_tree.specs.Documents.{Document, document_lines}
use Rattle.mk_tree.specs.Sections.{Placed, section_at, unended}
use Rattle.mk_tree.specs.Places.{Frame, lines_after, placed, plug, put}
use Rattle.mk_tree.proofs.Endings.{ended_crlf, ended_lf}
use Rattle.mk_decide.specs.Edits.{PlainEdit, SetBody}
use Rattle.mk_decide.specs.EditLaws.{IsLeaf}
use Rattle.mk_decide.specs.Outcomes.{edited}
use Rattle.mk_decide.specs.Plans.{place_of, plan_of, planned}
use Rattle.mk_decide.proofs.PlanNames.{body_plan}
use Rattle.mk_decide.proofs.Accepted.{none_some, ok_same, plan_by, some_same}
use Rattle.mk_decide.proofs.EveryEdit.{plan_there}
use Rattle.mk_decide.proofs.Late.{fair}
use Rattle.mk_decide.proofs.PlacesAgain.{PathAgain, path_again, section_there}
use Rattle.mk_decide.proofs.Renaming.{ends_after}
use Rattle.mk_view.specs.Extracts.{IsExtract}
use Rattle.mk_view.specs.Listing.{encoding_in, type_of}
use Rattle.mk_expand.specs.Charsets.{may_hold}
use Rattle.mk_expand.specs.Contents.{body_with, encoded_in}
use Rattle.mk_expand.specs.Meanings.{Meaning, BadCharset, UnknownEncoding}
use Rattle.mk_expand.specs.Words.{body_set, content_set}

-- the ending after a text is no content
no_return : (text f : List ℕ) → ends_in_return text ≡ false → text ≢ f ++ (13 ∷ [])
no_return text f h = λ e.
    let bad : false ≡ true = sym h ∙ (ap ends_in_return e ∙ ends_after f 13 []) in
    absurd (cc)

return_divided : (text : List ℕ) → text_of (unended (cut (text ++ (13 ∷ 10 ∷ [])))) ≡ text
return_divided text = sym (ended_crlf (text ++ (13 ∷ 10 ∷ [])) (text ++ (13 ∷ [])) text (sym (append_assoc text (13 ∷ []) (10 ∷ []))) refl)

divided_by : (r : Bool) (eol : Ending) (text : List ℕ) → ends_in_return text ≡ r → eol ≢ Missing → text_of (unended (cut (text ++ ending_bytes (if r then Crlf else eol)))) ≡ text
divided_by true eol text h n = return_divided text
divided_by false Crlf text h n = return_divided text
divided_by false Lf text h n = sym (ended_lf (text ++ (10 ∷ [])) text refl (λ f. no_return text f h))
divided_by false Missing text h n = absurd (n refl)

body_content : (eol : Ending) (followed : Bool) (text : List ℕ) → eol ≢ Missing → text_of (if followed then unended (cut (body_with eol followed text)) else cut (body_with eol followed text)) ≡ text
body_content eol true text n = divided_by (ends_in_return text) eol text refl n
body_content eol false text n = text_cut text

-- a text is read as what was encoded in it
encoded_back : (encoding : Encoding) (eol : Ending) (bytes text : List ℕ) → eol ≢ Missing → IsBytes bytes → encoded_in encoding eol bytes ≡ Some text → IsContent encoding text bytes
encoded_back Identity eol bytes text n small e = let same : bytes ≡ text = cc in same
encoded_back Qp eol bytes text n small e = subst (λ o. IfSome o (λ x. IsContent Qp x bytes)) e (sym (qp_back eol bytes n small))
encoded_back Base64 eol bytes text n small e = subst (λ o. IfSome o (λ x. IsContent Base64 x bytes)) e (base64_back eol bytes n small)
encoded_back Other eol bytes text n small e = absurd (cc)

one_same : (d e : PlainEdit) → ◌≡◌ {A = Meaning} (Ok (d ∷ [])) (Ok (e ∷ [])) → d ≡ e
one_same d e h = cc

-- the leaf has the body that was set, where it was
set_leaf : (path : List ℕ) (t u : Document) (fs : List Frame) (h : Head) (ls given : List TextLine) → place_of path t.root ≡ Some (fs, leaf h ls) → u ≡ planned t.envelope (body_plan (eol_of (document_lines t)) fs h given)
    → section_at path u ≡ Some (placed t.envelope fs (body_plan (eol_of (document_lines t)) fs h given).new)
set_leaf path t u fs h ls given o e =
    let new = (body_plan (eol_of (document_lines t)) fs h given).new in
    let again : PathAgain path (Some (fs, leaf h ls)) = subst (PathAgain path) o (path_again path t.root) in
    ap (section_at path) e
    ∙ (section_there path (put t.envelope fs new)
    ∙ (ap (λ js. option_map (λ (q : List Frame × Entity). placed t.envelope q.0 q.1) (place_of js (plug fs new))) (sym (append-nil path))
    ∙ (ap (λ o. option_map (λ (q : List Frame × Entity). placed t.envelope q.0 q.1) o) (again [] new)
    ∙ ap (λ gs. Some (placed t.envelope gs new)) (append-nil fs))))

-- what is extracted of it
pub back_by : (eol : Ending) (path bytes : List ℕ) (t u : Document) (fs : List Frame) (h : Head) (ls : List TextLine) (e : PlainEdit) (o : Option (List ℕ)) → eol ≢ Missing → IsBytes bytes → place_of path t.root ≡ Some (fs, leaf h ls)
    → encoded_in (encoding_in (placed t.envelope fs (leaf h ls))) eol bytes ≡ o → body_set eol path (not (is_nil (lines_after fs))) o ≡ Ok (e ∷ []) → edited e t ≡ Ok u → IsExtract (section_at path u) bytes
back_by eol path bytes t u fs h ls e None n small there enc m done = absurd (let bad : ◌≡◌ {A = Meaning} (Err UnknownEncoding) (Ok (e ∷ [])) = m in cc)
back_by eol path bytes t u fs h ls e (Some text) n small there enc m done =
    let followed = not (is_nil (lines_after fs)) in
    let body = body_with eol followed text in
    let same : SetBody path body ≡ e = one_same (SetBody path body) e m in
    let plan = plan_by t u (SetBody path body) (plan_of (SetBody path body) t) refl (fair (SetBody path body) t) (ap (λ x. edited x t) same ∙ done) in
    let is : body_plan (eol_of (document_lines t)) fs h (cut body) ≡ plan.plan = ok_same (body_plan (eol_of (document_lines t)) fs h (cut body)) plan.plan (plan_there (SetBody path body) t fs (leaf h ls) plan.plan there plan.is) in
    let at = set_leaf path t u fs h ls (cut body) there (plan.gives ∙ ap (planned t.envelope) (sym is)) in
    subst (λ o. IsExtract o bytes) (sym at)
    (subst (λ x. IsContent (encoding_in (placed t.envelope fs (leaf h ls))) x bytes) (sym (body_content eol followed text n)) (encoded_back (encoding_in (placed t.envelope fs (leaf h ls))) eol bytes text n small enc))

back_leaf : (eol : Ending) (path bytes : List ℕ) (t u : Document) (fs : List Frame) (s : Entity) (e : PlainEdit) → eol ≢ Missing → IsBytes bytes → place_of path t.root ≡ Some (fs, s) → IsLeaf s
    → content_set eol path bytes (Some (placed t.envelope fs s)) ≡ Ok (e ∷ []) → edited e t ≡ Ok u → IsExtract (section_at path u) bytes
back_leaf eol path bytes t u fs (leaf h ls) e n small there l m done = elim (cases_Bool (may_hold (type_of (placed t.envelope fs (leaf h ls))) bytes)) [
  | inl may ↦ back_by eol path bytes t u fs h ls e (encoded_in (encoding_in (placed t.envelope fs (leaf h ls))) eol bytes) n small there refl (rw may at m) done
  | inr cant ↦ absurd (let bad : ◌≡◌ {A = Meaning} (Err BadCharset) (Ok (e ∷ [])) = rw cant at m in cc)
]
back_leaf eol path bytes t u fs (message h x) e n small there l m done = absurd l
back_leaf eol path bytes t u fs (multi h c pre ps x) e n small there l m done = absurd l

back_there : (eol : Ending) (path bytes : List ℕ) (t u : Document) (p : Placed) (e : PlainEdit) (o : Option (List Frame × Entity)) → eol ≢ Missing → IsBytes bytes → place_of path t.root ≡ o → option_map (λ q. placed t.envelope q.0 q.1) o ≡ Some p
    → IsLeaf p.entity → content_set eol path bytes (Some p) ≡ Ok (e ∷ []) → edited e t ≡ Ok u → IsExtract (section_at path u) bytes
back_there eol path bytes t u p e None n small there is l m done = none_some p is
back_there eol path bytes t u p e (Some q) n small there is l m done =
    let same : placed t.envelope q.0 q.1 ≡ p = some_same (placed t.envelope q.0 q.1) p is in
    back_leaf eol path bytes t u q.0 q.1 e n small there (subst (λ (x : Placed). IsLeaf x.entity) (sym same) l) (ap (λ x. content_set eol path bytes (Some x)) same ∙ m) done

pub contents_back : (eol : Ending) (path bytes : List ℕ) (t u : Document) (p : Placed) (e : PlainEdit) → eol ≢ Missing → IsBytes bytes → section_at path t ≡ Some p → IsLeaf p.entity → content_set eol path bytes (Some p) ≡ Ok (e ∷ []) → edited e t ≡ Ok u → IsExtract (section_at path u) bytes
contents_back eol path bytes t u p e n small there l m done =
    back_there eol path bytes t u p e (place_of path t.root) n small refl (sym (section_there path t) ∙ there) l m done
