-- What an edit of the root's fields is answered that says nothing of the body: where a separator follows the fields, they alone decide.
use Rattle.std.proofs.Common.{◌≡◌, ◌==◌, ◌&&◌, ◌+◌, ◌-◌, ◌≤◌, ◌<◌, ◌++◌, if◌then◌else◌, ℕ, zero, suc, Bool, true, false, not, Bor, Option, None, Some, Result, Ok, Err, List, [], ◌∷◌, refl, ap, sym, ◌∙◌, subst, inl, inr, length, take, drop, nat_lt, arith}
use Rattle.std.proofs.lemmas.Bool.{cases_Bool, eqb-true, lt-ltb}
use Rattle.std.specs.List.{list_all}
use Rattle.mk_line.specs.Lines.{TextLine, cut, text_of, is_nil, ends_open}
use Rattle.mk_head.specs.Fields.{FieldText, after_more, continuations, field_text, fields_of, is_one_field}
use Rattle.mk_head.specs.Split.{fields_from, is_more, is_start}
use Rattle.mk_head.proofs.FieldRuns.{first_text}
use Rattle.mk_tree.specs.Tree.{entity_head}
use Rattle.mk_tree.specs.Documents.{tree}
use Rattle.mk_tree.specs.Sections.{Placed, head_text}
use Rattle.mk_tree.specs.Spans.{size}
use Rattle.mk_decide.specs.declared.field_edits.FieldEdit.{FieldEdit}
use Rattle.mk_decide.specs.declared.field_edits.FieldEdit.TheVariants.{Add, Remove, Rename, Set}
use Rattle.mk_decide.specs.Edits.{PlainEdit, AddField, RemoveField, RenameField, SetField, SetBody, SetSection, InsertPart, RemovePart, Wrap, Refusal, OpenLine}
use Rattle.mk_decide.specs.FieldPuts.{LinePut, plain_of, puts}
use Rattle.mk_splice.specs.Splices.{spliced}
use Rattle.mk_decide.specs.LocalAnswers.{IsDecided, PlainSplice, answer, answer_puts, opens_at}
use Rattle.mk_decide.specs.Outcomes.{edited}
use Rattle.mk_decide.specs.Looks.{has_separator}
use Rattle.mk_decide.proofs.FieldAnswers.{answered_err, put_splice}
use Rattle.mk_decide.proofs.FieldFits.{IsPutAt}
use Rattle.mk_decide.proofs.Renaming.{both}
use Rattle.mk_edit.specs.RootFields.{HasFields, lines_in, root_in}
use Rattle.mk_edit.specs.HeaderEdits.{are_silent, edits_header, is_silent, leads_to_root}
use Rattle.mk_edit.proofs.RootEdits.{IsReplaced, answer_root, head_size, replaces_put, root_ends, root_put}
use Rattle.mk_edit.proofs.SilentFields.{IsGivenSilent, NamesSilent, first_name}

-- a separator follows the root's fields
abbrev pub IsSeparated : List ℕ → Type 0
IsSeparated text = has_separator (entity_head (root_in text).entity).separator ≡ true

fields_there : (text : List ℕ) → IsSeparated text → HasFields text (root_in text).start (length (head_text (root_in text)))
fields_there text s = record { begins = refl; takes = refl; separated = s }

-- whether lines would make an open line stand before another, where bytes follow them
abbrev opens_there : List ℕ → Bool
opens_there lines = if is_nil lines then false else ends_open lines

-- the answer by the fields alone, which begin at a place
abbrev pub answer_there : ℕ → Result LinePut Refusal → Result PlainSplice Refusal
answer_there start (Ok q) =
    if opens_there (text_of q.given) then Err OpenLine
    else Ok (record { place = start + size q.before; count = size q.old - length q.kept; new = take (length (text_of q.given) - length q.kept) (text_of q.given) })
answer_there start (Err e) = Err e

inside_at : (text : List ℕ) (place count : ℕ) (lines : List ℕ) (e m : Bool) → place == length text ≡ e → nat_lt (place + count) (length text) ≡ m → e ≡ false → m ≡ true → opens_at text place count lines ≡ opens_there lines
inside_at text place count lines e m p q f t = rw (p ∙ f, q ∙ t) (either (is_nil lines) (ends_open lines))
  where
    either : (n o : Bool) → (if n then false else (o && true)) ≡ (if n then false else o)
    either true o = refl
    either false true = refl
    either false false = refl

other_place : (n m : ℕ) → n < m → (n == m) ≡ false
other_place n m h =
    elim (cases_Bool (n == m)) [
      | inl t ↦ absurd (let same : n ≡ m = eqb-true n m t in omega (arith, same, h))
      | inr f ↦ f
    ]

-- a byte follows what a put replaces
put_within : (text : List ℕ) (edit : FieldEdit) (q : LinePut) → IsSeparated text → IsPutAt edit (root_in text) q → (root_in text).start + size q.before + size q.old < length text
put_within text edit q s h = omega (arith, root_ends text (root_in text).start (length (head_text (root_in text))) (fields_there text s), head_size text edit q h)

opens_so : (text : List ℕ) (edit : FieldEdit) (q : LinePut) → IsSeparated text → IsPutAt edit (root_in text) q → opens_at text ((root_in text).start + size q.before) (size q.old) (text_of q.given) ≡ opens_there (text_of q.given)
opens_so text edit q s h =
    let w = put_within text edit q s h in
    let place = (root_in text).start + size q.before in
    inside_at text place (size q.old) (text_of q.given) _ _ refl refl (other_place place (length text) (omega (arith, w))) (lt-ltb (place + size q.old) (length text) w)

put_answered : (text : List ℕ) (edit : FieldEdit) (q : LinePut) → NamesSilent edit → IsSeparated text → IsPutAt edit (root_in text) q → (opens : Bool) → opens_there (text_of q.given) ≡ opens → answer text (1 ∷ []) edit ≡ answer_there (root_in text).start (Ok q)
put_answered text edit q n s h true o =
    let opens = opens_so text edit q s h ∙ o in
    ap (answer_puts text [] (root_in text)) h ∙ rw (opens, o) refl
put_answered text edit q n s h false o =
    let opens = opens_so text edit q s h ∙ o in
    answer_root text edit q h opens (root_put text edit q n s h opens).fits ∙ rw o refl

answered_by : (text : List ℕ) (edit : FieldEdit) (r : Result LinePut Refusal) → NamesSilent edit → IsSeparated text → puts edit (lines_in text) ≡ r → answer text (1 ∷ []) edit ≡ answer_there (root_in text).start r
answered_by text edit (Ok q) n s h = put_answered text edit q n s h (opens_there (text_of q.given)) refl
answered_by text edit (Err e) n s h = ap (answer_puts text [] (root_in text)) h

-- the answer is that of the fields
pub header_answered : (text : List ℕ) (edit : FieldEdit) → NamesSilent edit → IsSeparated text → answer text (1 ∷ []) edit ≡ answer_there (root_in text).start (puts edit (lines_in text))
header_answered text edit n s = answered_by text edit (puts edit (lines_in text)) n s refl

-- what an edit makes of a text
pub record IsMadeIn (text : List ℕ) (edit : FieldEdit) (r : PlainSplice) : Type 0 where
  pub decided : IsDecided (plain_of (1 ∷ []) edit) text r
  pub within : r.place + r.count < length text
  pub separated : IsSeparated (spliced r.place r.count r.new text)

put_made : (text : List ℕ) (edit : FieldEdit) (q : LinePut) (r : PlainSplice) → NamesSilent edit → IsSeparated text → IsPutAt edit (root_in text) q → (opens : Bool) → opens_there (text_of q.given) ≡ opens → answer_there (root_in text).start (Ok q) ≡ Ok r → IsMadeIn text edit r
put_made text edit q r n s h true o e = absurd (refused (rw o at e))
  where
    refused : ◌≡◌ {A = Result PlainSplice Refusal} (Err OpenLine) (Ok r) → ⊥
    refused x = cc
put_made text edit q r n s h false o e =
    let k = replaces_put text edit q n s h (opens_so text edit q s h ∙ o) in
    let w = put_within text edit q s h in
    subst (IsMadeIn text edit) (same_splice (put_splice (root_in text) q) r (rw o at e)) (record { decided = k.decided; within = omega (arith, w); separated = k.left.separated })
  where
    same_splice : (x y : PlainSplice) → ◌≡◌ {A = Result PlainSplice Refusal} (Ok x) (Ok y) → x ≡ y
    same_splice x y e = cc

made_by : (text : List ℕ) (edit : FieldEdit) (x : Result LinePut Refusal) (r : PlainSplice) → NamesSilent edit → IsSeparated text → puts edit (lines_in text) ≡ x → answer_there (root_in text).start x ≡ Ok r → IsMadeIn text edit r
made_by text edit (Ok q) r n s h e = put_made text edit q r n s h (opens_there (text_of q.given)) refl e
made_by text edit (Err reason) r n s h e = cc

pub made_in : (text : List ℕ) (edit : FieldEdit) (r : PlainSplice) → NamesSilent edit → IsSeparated text → answer_there (root_in text).start (puts edit (lines_in text)) ≡ Ok r → IsMadeIn text edit r
made_in text edit r n s e = made_by text edit (puts edit (lines_in text)) r n s refl e

-- or the reason against it
pub refused_in : (text : List ℕ) (edit : FieldEdit) (reason : Refusal) → NamesSilent edit → IsSeparated text → answer_there (root_in text).start (puts edit (lines_in text)) ≡ Err reason → edited (plain_of (1 ∷ []) edit) (tree text) ≡ Err reason
refused_in text edit reason n s e = answered_err text (1 ∷ []) edit (Some reason) (header_answered text edit n s ∙ e)

-- ---- an edit in plain data

root_path : (path : List ℕ) → leads_to_root path ≡ true → path ≡ 1 ∷ []
root_path [] h = cc
root_path (k ∷ []) h = ap (λ n. n ∷ []) (eqb-true k 1 (both (k == 1) true h).0)
root_path (k ∷ m ∷ ks) h = let never : false ≡ true = (both (k == 1) false h).1 in cc

given_silent : (ls : List TextLine) → list_all (λ (f : FieldText). is_silent f.name) (fields_of (fields_from false ls)) ≡ true → IsGivenSilent ls
given_silent [] h one = cc
given_silent (l ∷ ls) h one =
    let start = (both (is_start l) (list_all is_more ls) one).0 in
    (both (is_silent (first_name (l ∷ ls))) (list_all (λ (f : FieldText). is_silent f.name) (fields_of (fields_from false (after_more ls)))) (ap (list_all (λ (f : FieldText). is_silent f.name)) (sym (first_text l ls start)) ∙ h)).0

abbrev held : List ℕ → Bor (List ℕ)
held xs = record { ref_ptr = (0, 0); now = xs }

-- an edit of the root's fields that says nothing of the body
pub record IsHeaderEdit (e : PlainEdit) : Type 0 where
  pub edit : FieldEdit
  pub plain : plain_of (1 ∷ []) edit ≡ e
  pub silent : NamesSilent edit

pub header_edit : (e : PlainEdit) → edits_header e ≡ true → IsHeaderEdit e
header_edit (AddField path top text) h =
    let p = both (leads_to_root path) (are_silent text) h in
    record { edit = Add top (held text); plain = ap (λ x. AddField x top text) (sym (root_path path p.0)); silent = given_silent (cut text) p.1 }
header_edit (RemoveField path name k) h =
    let p = both (leads_to_root path) (is_silent name) h in
    record { edit = Remove (held name) k; plain = ap (λ x. RemoveField x name k) (sym (root_path path p.0)); silent = p.1 }
header_edit (RenameField path name k to) h =
    let p = both (leads_to_root path && is_silent name) (is_silent to) h in
    let q = both (leads_to_root path) (is_silent name) p.0 in
    record { edit = Rename (held name) k (held to); plain = ap (λ x. RenameField x name k to) (sym (root_path path q.0)); silent = (q.1, p.1) }
header_edit (SetField path name k text) h =
    let p = both (leads_to_root path && is_silent name) (are_silent text) h in
    let q = both (leads_to_root path) (is_silent name) p.0 in
    record { edit = Set (held name) k (held text); plain = ap (λ x. SetField x name k text) (sym (root_path path q.0)); silent = (q.1, given_silent (cut text) p.1) }
header_edit (SetBody path text) h = cc
header_edit (SetSection path text) h = cc
header_edit (InsertPart path place text) h = cc
header_edit (RemovePart path) h = cc
header_edit (Wrap path subtype boundary) h = cc
