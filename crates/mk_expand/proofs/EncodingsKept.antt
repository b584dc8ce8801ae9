-- A leaf that `encode` puts in another transfer encoding keeps its content.
use Rattle.std.proofs.Common.{◌≡◌, ◌≢◌, ◌++◌, if◌then◌else◌, ℕ, Bool, true, false, not, Option, None, Some, Result, Ok, Err, List, [], ◌∷◌, codes, filter, map, refl, ap, sym, ◌∙◌, subst, append-nil, inl, inr}
use Rattle.std.proofs.lemmas.Bool.{cases_Bool}
use Rattle.std.specs.Option.{option_map, option_map_or}
use Rattle.base64.specs.GeneralPurpose.{IsBytes}
use Rattle.mk_line.specs.declared.cutting.Ending.{Ending}
use Rattle.mk_line.specs.declared.cutting.Ending.TheVariants.{Crlf, Lf, Missing}
use Rattle.mk_line.specs.Lines.{TextLine, cut, text_line, is_nil}
use Rattle.mk_head.specs.declared.encodings.Encoding.{Encoding}
use Rattle.mk_head.specs.declared.encodings.Encoding.TheVariants.{Identity, Qp, Base64}
use Rattle.mk_head.specs.Split.{Head}
use Rattle.mk_head.specs.Fields.{FieldText, fields_of, is_named, is_one_field}
use Rattle.mk_head.specs.Unfolding.{value_in}
use Rattle.mk_tree.specs.Tree.{Entity, leaf, message, multi}
use Rattle.mk_tree.specs.Documents.{Document}
use Rattle.mk_tree.specs.Sections.{Placed, content_text, section_at}
use Rattle.mk_tree.specs.Places.{Frame, lines_after, placed, plug}
use Rattle.mk_decide.specs.Edits.{PlainEdit, AddField, RemoveField, SetField, SetBody, Refusal, BadField}
use Rattle.mk_decide.specs.EditLaws.{IsLeaf}
use Rattle.mk_decide.specs.FieldEdits.{Found, field_at, find, starts_named}
use Rattle.mk_decide.specs.Outcomes.{edited}
use Rattle.mk_decide.specs.Plans.{Plan, fields_plan, place_of, plan_of, planned, unless}
use Rattle.mk_decide.proofs.PlanNames.{add_plan, change_plan, drop_plan, with_field}
use Rattle.mk_decide.proofs.Accepted.{found_ok, none_some, ok_same, plan_by, some_same, there_again, unless_ok}
use Rattle.mk_decide.proofs.EveryEdit.{plan_there}
use Rattle.mk_decide.proofs.Late.{fair}
use Rattle.mk_decide.proofs.PlacesAgain.{section_there}
use Rattle.mk_view.specs.Extracts.{IsExtract}
use Rattle.mk_view.specs.Listing.{encoding_in}
use Rattle.mk_script.specs.declared.script.ChosenEncoding.{ChosenEncoding}
use Rattle.mk_script.specs.declared.script.ChosenEncoding.TheVariants.{Qp as ToQp, QuotedPrintable, Base64 as ToBase64, EightBit, Identity as ToIdentity}
use Rattle.mk_expand.specs.Contents.{body_with, encoded_in}
use Rattle.mk_expand.specs.Encodings.{encoded_as, encoding_field, encoding_set, encoding_value, may_be_encoded, recoded, recoded_to}
use Rattle.mk_expand.specs.ExpandLaws.{all_edited}
use Rattle.mk_line.specs.Results.{made_of}
use Rattle.mk_expand.specs.FieldWords.{name_in, put, put_over, those}
use Rattle.mk_expand.specs.Meanings.{Meaning, BinaryContent}
use Rattle.mk_expand.proofs.Base64Read.{content_is_read}
use Rattle.mk_expand.proofs.ContentsBack.{back_by}
use Rattle.mk_expand.proofs.FirstFields.{IsFirst, first_after, first_is_read, first_put, first_stays}
use Rattle.mk_head.specs.Encodings.{encoding_of}

-- the name of the field, and its line
abbrev field_name : List ℕ
field_name = codes "Content-Transfer-Encoding"

abbrev said_line : Ending → ChosenEncoding → TextLine
said_line eol to = text_line (codes "Content-Transfer-Encoding: " ++ encoding_value to) eol

abbrev chosen_encoding : ChosenEncoding → Encoding
chosen_encoding ToQp = Qp
chosen_encoding QuotedPrintable = Qp
chosen_encoding ToBase64 = Base64
chosen_encoding EightBit = Identity
chosen_encoding ToIdentity = Identity

-- what holds of it, by computing
record IsSaid (eol : Ending) (to : ChosenEncoding) : Type 0 where
  line : cut (encoding_field eol to) ≡ said_line eol to ∷ []
  name : name_in (encoding_field eol to) ≡ field_name
  one : is_one_field (cut (encoding_field eol to)) ≡ true
  starts : starts_named field_name (said_line eol to) ≡ true
  says : option_map_or encoding_of (Some (value_in (said_line eol to ∷ []))) Identity ≡ chosen_encoding to

is_said : (eol : Ending) (to : ChosenEncoding) → eol ≢ Missing → IsSaid eol to
is_said Crlf ToQp n = record { line = refl; name = refl; one = refl; starts = refl; says = refl }
is_said Crlf QuotedPrintable n = record { line = refl; name = refl; one = refl; starts = refl; says = refl }
is_said Crlf ToBase64 n = record { line = refl; name = refl; one = refl; starts = refl; says = refl }
is_said Crlf EightBit n = record { line = refl; name = refl; one = refl; starts = refl; says = refl }
is_said Crlf ToIdentity n = record { line = refl; name = refl; one = refl; starts = refl; says = refl }
is_said Lf ToQp n = record { line = refl; name = refl; one = refl; starts = refl; says = refl }
is_said Lf QuotedPrintable n = record { line = refl; name = refl; one = refl; starts = refl; says = refl }
is_said Lf ToBase64 n = record { line = refl; name = refl; one = refl; starts = refl; says = refl }
is_said Lf EightBit n = record { line = refl; name = refl; one = refl; starts = refl; says = refl }
is_said Lf ToIdentity n = record { line = refl; name = refl; one = refl; starts = refl; says = refl }
is_said Missing to n = absurd (n refl)

encoded_so : (to : ChosenEncoding) (eol : Ending) (bytes : List ℕ) → encoded_in (chosen_encoding to) eol bytes ≡ Some (encoded_as to eol bytes)
encoded_so ToQp eol bytes = refl
encoded_so QuotedPrintable eol bytes = refl
encoded_so ToBase64 eol bytes = refl
encoded_so EightBit eol bytes = refl
encoded_so ToIdentity eol bytes = refl

-- a leaf with these fields stands at a place of a document
record AtLeaf (path : List ℕ) (fs : List Frame) (ls fields : List TextLine) (t : Document) : Type 0 where
  separator : Option TextLine
  there : place_of path t.root ≡ Some (fs, leaf (record { fields = fields; separator = separator }) ls)

-- with other fields
moved : (path : List ℕ) (fs : List Frame) (ls fields new given : List TextLine) (t u : Document) (at : AtLeaf path fs ls fields t) → u ≡ planned t.envelope (fields_plan fs (leaf (record { fields = fields; separator = at.separator }) ls) new given)
    → AtLeaf path fs ls new u
moved path fs ls fields new given t u at gives = record {
  separator = at.separator;
  there
      = ap (λ (d : Document). place_of path d.root) gives
      ∙ there_again path t.root fs (leaf (record { fields = fields; separator = at.separator }) ls) (leaf (record { fields = new; separator = at.separator }) ls) at.there;
}

-- the field is added
after_add : (path text : List ℕ) (first : TextLine) (fs : List Frame) (ls fields : List TextLine) (t u : Document) → cut text ≡ first ∷ [] → AtLeaf path fs ls fields t → edited (AddField path false text) t ≡ Ok u → AtLeaf path fs ls (fields ++ first ∷ []) u
after_add path text first fs ls fields t u line at done =
    let s : Entity = leaf (record { fields = fields; separator = at.separator }) ls in
    let e = AddField path false text in
    let plan = plan_by t u e (plan_of e t) refl (fair e t) done in
    let is : add_plan fs s false (cut text) ≡ plan.plan = unless_ok (not (is_one_field (cut text))) BadField (add_plan fs s false (cut text)) plan.plan (plan_there e t fs s plan.plan at.there plan.is) in
    moved path fs ls fields (fields ++ first ∷ []) (first ∷ []) t u at (plan.gives ∙ ap (planned t.envelope) (sym is ∙ ap (λ given. fields_plan fs s (fields ++ given) given) line))

-- it stands in the place of the first of its name
after_set : (path name text : List ℕ) (first : TextLine) (fs : List Frame) (ls fields : List TextLine) (t u : Document) → cut text ≡ first ∷ [] → AtLeaf path fs ls fields t → edited (SetField path name 1 text) t ≡ Ok u
    → (f : Found) × (find (starts_named name) 0 fields ≡ Some f) × AtLeaf path fs ls (f.before ++ (first ∷ f.after)) u
after_set path name text first fs ls fields t u line at done =
    let s : Entity = leaf (record { fields = fields; separator = at.separator }) ls in
    let e = SetField path name 1 text in
    let plan = plan_by t u e (plan_of e t) refl (fair e t) done in
    let found = found_ok (field_at name 1 fields) (λ f. unless (not (is_one_field (cut text))) BadField (Ok (change_plan fs s (cut text) f))) plan.plan (plan_there e t fs s plan.plan at.there plan.is) in
    let f = found.0 in
    let is : change_plan fs s (cut text) f ≡ plan.plan = unless_ok (not (is_one_field (cut text))) BadField (change_plan fs s (cut text) f) plan.plan found.2 in
    (f, found.1, moved path fs ls fields (f.before ++ (first ∷ f.after)) (first ∷ []) t u at (plan.gives ∙ ap (planned t.envelope) (sym is ∙ ap (λ given. fields_plan fs s (f.before ++ (given ++ f.after)) given) line)))

-- a later one goes
after_drop : (path name : List ℕ) (fs : List Frame) (ls fields : List TextLine) (t u : Document) → AtLeaf path fs ls fields t → edited (RemoveField path name 2) t ≡ Ok u
    → (f : Found) × (find (starts_named name) 1 fields ≡ Some f) × AtLeaf path fs ls (f.before ++ f.after) u
after_drop path name fs ls fields t u at done =
    let s : Entity = leaf (record { fields = fields; separator = at.separator }) ls in
    let e = RemoveField path name 2 in
    let plan = plan_by t u e (plan_of e t) refl (fair e t) done in
    let found = found_ok (field_at name 2 fields) (λ f. Ok (drop_plan fs s f)) plan.plan (plan_there e t fs s plan.plan at.there plan.is) in
    let f = found.0 in
    (f, found.1, moved path fs ls fields (f.before ++ f.after) [] t u at (plan.gives ∙ ap (planned t.envelope) (sym (ok_same (drop_plan fs s f) plan.plan found.2))))

-- edits in turn
err_document : {A : Type 0} (e : Refusal) (u : Document) → ◌≡◌ {A = Result Document Refusal} (Err e) (Ok u) → A
err_document e u h = cc

pub in_turn : (others : Document → Result Document Refusal) (r : Result Document Refusal) (u : Document) → made_of others r ≡ Ok u → (t : Document) × (r ≡ Ok t) × (others t ≡ Ok u)
in_turn others (Ok t) u h = (t, refl, h)
in_turn others (Err e) u h = err_document e u h

pub document_same : (t u : Document) → ◌≡◌ {A = Result Document Refusal} (Ok t) (Ok u) → t ≡ u
document_same t u h = cc

pub last_edit : (e : PlainEdit) (t u : Document) → all_edited (e ∷ []) t ≡ Ok u → edited e t ≡ Ok u
last_edit e t u h =
    let made = in_turn (all_edited []) (edited e t) u h in
    made.1 ∙ ap Ok (document_same made.0 u made.2)

-- the field is said first, and the body is set last
record IsReady (path body : List ℕ) (first : TextLine) (fs : List Frame) (ls : List TextLine) (u : Document) : Type 0 where
  document : Document
  fields : List TextLine
  at : AtLeaf path fs ls fields document
  is_first : IsFirst field_name first fields
  done : edited (SetBody path body) document ≡ Ok u

dropped_on : (path body : List ℕ) (first : TextLine) (fs : List Frame) (ls fields : List TextLine) (others : List FieldText) (t u : Document) → starts_named field_name first ≡ true → AtLeaf path fs ls fields t → IsFirst field_name first fields
    → all_edited (map (λ f. RemoveField path field_name 2) others ++ SetBody path body ∷ []) t ≡ Ok u → IsReady path body first fs ls u
dropped_on path body first fs ls fields [] t u named at is done = record { document = t; fields = fields; at = at; is_first = is; done = last_edit (SetBody path body) t u done }
dropped_on path body first fs ls fields (f ∷ others) t u named at is done =
    let made = in_turn (all_edited (map (λ f. RemoveField path field_name 2) others ++ SetBody path body ∷ [])) (edited (RemoveField path field_name 2) t) u done in
    let gone = after_drop path field_name fs ls fields t made.0 at made.1 in
    dropped_on path body first fs ls (gone.0.before ++ gone.0.after) others made.0 u named gone.2 (first_stays field_name first fields gone.0 named is gone.1) made.2

put_on : (path text body : List ℕ) (first : TextLine) (fs : List Frame) (ls fields : List TextLine) (found : List FieldText) (t u : Document) → cut text ≡ first ∷ [] → starts_named field_name first ≡ true → AtLeaf path fs ls fields t
    → filter (is_named field_name) (fields_of fields) ≡ found → all_edited (put_over path field_name text found ++ SetBody path body ∷ []) t ≡ Ok u → IsReady path body first fs ls u
put_on path text body first fs ls fields [] t u line named at none done =
    let made = in_turn (all_edited (SetBody path body ∷ [])) (edited (AddField path false text) t) u done in
    record {
      document = made.0;
      fields = fields ++ first ∷ [];
      at = after_add path text first fs ls fields t made.0 line at made.1;
      is_first = first_after field_name first fields none;
      done = last_edit (SetBody path body) made.0 u made.2;
    }
put_on path text body first fs ls fields (x ∷ others) t u line named at some done =
    let made = in_turn (all_edited (map (λ f. RemoveField path field_name 2) others ++ SetBody path body ∷ [])) (edited (SetField path field_name 1 text) t) u done in
    let set = after_set path field_name text first fs ls fields t made.0 line at made.1 in
    dropped_on path body first fs ls (set.0.before ++ (first ∷ set.0.after)) others made.0 u named set.2 (first_put field_name first fields set.0 set.1) made.2

-- the body is read as what was encoded in it
kept_by : (eol : Ending) (path bytes : List ℕ) (to : ChosenEncoding) (fs : List Frame) (ls : List TextLine) (u : Document) → eol ≢ Missing → IsBytes bytes → IsSaid eol to
    → IsReady path (body_with eol (not (is_nil (lines_after fs))) (encoded_as to eol bytes)) (said_line eol to) fs ls u → IsExtract (section_at path u) bytes
kept_by eol path bytes to fs ls u n small said ready =
    let h : Head = record { fields = ready.fields; separator = ready.at.separator } in
    let text = encoded_as to eol bytes in
    let read : encoding_in (placed ready.document.envelope fs (leaf h ls)) ≡ chosen_encoding to = ap (λ o. option_map_or encoding_of o Identity) (first_is_read field_name (said_line eol to) ready.fields said.starts ready.is_first) ∙ said.says in
    back_by eol path bytes ready.document u fs h ls (SetBody path (body_with eol (not (is_nil (lines_after fs))) text)) (Some text) n small ready.at.there (ap (λ x. encoded_in x eol bytes) read ∙ encoded_so to eol bytes) refl ready.done

edits_same : (d e : List PlainEdit) → ◌≡◌ {A = Meaning} (Ok d) (Ok e) → d ≡ e
edits_same d e h = cc

-- a content that may be in an encoding was put in it
recoded_same : (eol : Ending) (path bytes : List ℕ) (to : ChosenEncoding) (p : Placed) (es : List PlainEdit) → recoded eol path to p (Ok bytes) ≡ Ok es → recoded_to eol path to p bytes ≡ es
recoded_same eol path bytes to p es set = elim (cases_Bool (may_be_encoded to bytes)) [
  | inl may ↦ edits_same (recoded_to eol path to p bytes) es (rw may at set)
  | inr cant ↦ absurd (let bad : ◌≡◌ {A = Meaning} (Err BinaryContent) (Ok es) = rw cant at set in cc)
]

-- what is put
put_is : (eol : Ending) (path : List ℕ) (to : ChosenEncoding) (p : Placed) → IsSaid eol to → put path (encoding_field eol to) (Some p) ≡ put_over path field_name (encoding_field eol to) (those field_name p)
put_is eol path to p said =
    let text = encoding_field eol to in
    ap (λ b. if b then put_over path (name_in text) text (those (name_in text) p) else AddField path false text ∷ []) said.one
    ∙ ap (λ name. put_over path name text (those name p)) said.name

kept_leaf : (eol : Ending) (path bytes : List ℕ) (to : ChosenEncoding) (t u : Document) (fs : List Frame) (s : Entity) (es : List PlainEdit) → eol ≢ Missing → IsBytes bytes → place_of path t.root ≡ Some (fs, s) → IsLeaf s
    → IsExtract (Some (placed t.envelope fs s)) bytes → encoding_set eol path to (Some (placed t.envelope fs s)) ≡ Ok es → all_edited es t ≡ Ok u → IsExtract (section_at path u) bytes
kept_leaf eol path bytes to t u fs (leaf h ls) es n small there l content set done =
    let p = placed t.envelope fs (leaf h ls) in
    let said = is_said eol to n in
    let text = encoding_field eol to in
    let body = body_with eol (not (is_nil (lines_after fs))) (encoded_as to eol bytes) in
    let read = content_is_read (encoding_in p) (content_text p) bytes content in
    let same : put path text (Some p) ++ SetBody path body ∷ [] ≡ es = recoded_same eol path bytes to p es (ap (recoded eol path to p) (sym read) ∙ set) in
    let over : put_over path field_name text (those field_name p) ++ SetBody path body ∷ [] ≡ es = ap (λ xs. xs ++ SetBody path body ∷ []) (sym (put_is eol path to p said)) ∙ same in
    kept_by eol path bytes to fs ls u n small said
    (put_on path text body (said_line eol to) fs ls h.fields (those field_name p) t u said.line said.starts (record { separator = h.separator; there = there }) refl (ap (λ xs. all_edited xs t) over ∙ done))
kept_leaf eol path bytes to t u fs (message h x) es n small there l content set done = absurd l
kept_leaf eol path bytes to t u fs (multi h c pre ps x) es n small there l content set done = absurd l

kept_there : (eol : Ending) (path bytes : List ℕ) (to : ChosenEncoding) (t u : Document) (p : Placed) (es : List PlainEdit) (o : Option (List Frame × Entity)) → eol ≢ Missing → IsBytes bytes → place_of path t.root ≡ o
    → option_map (λ q. placed t.envelope q.0 q.1) o ≡ Some p → IsLeaf p.entity → IsExtract (Some p) bytes → encoding_set eol path to (Some p) ≡ Ok es → all_edited es t ≡ Ok u → IsExtract (section_at path u) bytes
kept_there eol path bytes to t u p es None n small there is l content set done = none_some p is
kept_there eol path bytes to t u p es (Some q) n small there is l content set done =
    let same : placed t.envelope q.0 q.1 ≡ p = some_same (placed t.envelope q.0 q.1) p is in
    kept_leaf eol path bytes to t u q.0 q.1 es n small there (subst (λ (x : Placed). IsLeaf x.entity) (sym same) l) (subst (λ x. IsExtract (Some x) bytes) (sym same) content) (ap (λ x. encoding_set eol path to (Some x)) same ∙ set) done

pub encodings_kept : (eol : Ending) (path bytes : List ℕ) (to : ChosenEncoding) (t u : Document) (p : Placed) (es : List PlainEdit) → eol ≢ Missing → IsBytes bytes → section_at path t ≡ Some p → IsLeaf p.entity → IsExtract (Some p) bytes → encoding_set eol path to (Some p) ≡ Ok es → all_edited es t ≡ Ok u → IsExtract (section_at path u) bytes
encodings_kept eol path bytes to t u p es n small there l content set done =
    kept_there eol path bytes to t u p es (place_of path t.root) n small refl (sym (section_there path t) ∙ there) l content set done
