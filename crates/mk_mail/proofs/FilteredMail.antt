-- A message filtered by letters: its fields alone change, so it begins and ends as it did.
use Rattle.mk_mailbox.specs.declared.from_lines.FromLines.{FromLines}
use Rattle.mk_mailbox.specs.declared.from_lines.FromLines.TheVariants.{Any, Dated, Fielded}
use Rattle.mk_mailbox.specs.Pieces.{is_followed, is_left_alone, is_mail_start, needs_field, mailbox_pieces}
use Rattle.std.proofs.Common.{◌+◌, ◌≡◌, ◌&&◌, ◌||◌, ◌++◌, ℕ, Bool, true, false, not, if◌then◌else◌, Option, None, Some, Result, Ok, Err, List, [], ◌∷◌, drop, filter, refl, ap, sym, ◌∙◌, subst, inl, inr, map, append_assoc}
use Rattle.std.specs.List.{list_any, flat_map}
use Rattle.std.proofs.lemmas.Bool.{cases_Bool}
use Rattle.std.specs.Option.{option_map_or, option_to_list}
use Rattle.std.specs.Prelude.{nat_lt}
use Rattle.std.specs.Result.{result_map_both, result_unwrap_or}
use Rattle.mk_line.specs.declared.cutting.Ending.{Ending}
use Rattle.mk_line.specs.Kinds.{is_continuation, is_field_start, is_from_line, is_name}
use Rattle.mk_line.specs.Lines.{TextLine, cut, eol_of, is_nil}
use Rattle.mk_head.specs.Fields.{FieldText, is_named, is_one_field}
use Rattle.mk_head.specs.Splits.{IsRun}
use Rattle.mk_tree.specs.Documents.{Document, document_lines, document_of, printed, tree}
use Rattle.mk_tree.specs.Places.{put}
use Rattle.mk_tree.specs.Sections.{root_of}
use Rattle.mk_tree.specs.Tree.{Entity, leaf, message, multi, field_lines, with_fields}
use Rattle.mk_tree.proofs.HeadChanged.{after_fields, changed_lines, entity_lines}
use Rattle.mk_tree.proofs.Kept.{enveloped, lines_kept}
use Rattle.mk_tree.proofs.OwnFields.{fields_are}
use Rattle.mk_decide.proofs.PlanNames.{IsJudged, add_plan, change_plan, drop_plan, rename_plan, with_place, added as with_added}
use Rattle.mk_decide.specs.Edits.{PlainEdit, AddField, RemoveField, RenameField, SetField, SetBody, SetSection, InsertPart, RemovePart, Wrap, Refusal, BadField, BadName}
use Rattle.mk_decide.specs.EditSplices.{splices_of}
use Rattle.mk_decide.specs.FieldEdits.{field_at, renamed}
use Rattle.mk_edit.specs.Groups.{Together, following, made_on, together}
use Rattle.mk_decide.specs.Outcomes.{edited, judged_by}
use Rattle.mk_decide.specs.Plans.{Plan, plan_at, plan_of, place_of, planned, unless}
use Rattle.mk_splice.specs.Splices.{Splice}
use Rattle.mk_decide.proofs.Answered.{Holds, field_holds, unless_holds}
use Rattle.mk_edit.proofs.GroupFacts.{groups_read_back_lem}
use Rattle.mk_decide.proofs.Late.{IsFair, fair, told}
use Rattle.mk_decide.proofs.SectionSites.{head_cut, head_is_run, site}
use Rattle.mk_mail.specs.Filtered.{IsFielded, filtered, filtered_in, outcome_at, is_left}
use Rattle.mk_mail.specs.Letters.{Removal, goes, removal_of, PlainLetters, PlainPattern, Work, add_if_letter, added, added_full, dropped, first_letter, is_bare, is_dropped, letter, made_old, name_in, next_number, old_name, only_letter, fields_at, edits_at, letter_edits, most_prepended, prepending, prefixed_letter, removed_all, rename_letter, replaced, respelling, respelt, names_at, root_path, same_name, those, untouched, worked}
use Rattle.mk_mail.specs.Prepended.{PlainPrepend}
use Rattle.mk_mailbox.specs.Dates.{ends_with_date}
use Rattle.mk_mail.proofs.FieldNames.{both_true}
use Rattle.mk_mailbox.specs.Places.{begins_from, ends_empty}
use Rattle.mk_mail.proofs.MailChains.{AreMessage, IsKept, IsWhole, kept_apart}

-- ---- the edits of letters are edits of the root's fields

-- an edit of letters: of fields, at the root
abbrev pub IsRootEdit : PlainEdit → Type 0
IsRootEdit (AddField path top text) = path ≡ root_path
IsRootEdit (RemoveField path name k) = path ≡ root_path
IsRootEdit (RenameField path name k to) = path ≡ root_path
IsRootEdit (SetField path name k text) = path ≡ root_path
IsRootEdit (SetBody path text) = ⊥
IsRootEdit (SetSection path text) = ⊥
IsRootEdit (InsertPart path place text) = ⊥
IsRootEdit (RemovePart path) = ⊥
IsRootEdit (Wrap path subtype boundary) = ⊥

abbrev pub AreRootEdits : List PlainEdit → Type 0
AreRootEdits [] = Unit {0}
AreRootEdits (e ∷ es) = IsRootEdit e × AreRootEdits es

mapped : {X : Type 0} (f : X → PlainEdit) (xs : List X) → ((x : X) → IsRootEdit (f x)) → AreRootEdits (map f xs)
mapped f [] h = tt
mapped f (x ∷ xs) h = (h x, mapped f xs h)

pub joined : (es fs : List PlainEdit) → AreRootEdits es → AreRootEdits fs → AreRootEdits (es ++ fs)
joined [] fs h g = g
joined (e ∷ es) fs h g = (h.0, joined es fs h.1 g)

respelling_root : (old new : List ℕ) (o : Option ℕ) (names : List (List ℕ)) → AreRootEdits (respelling root_path old new o names)
respelling_root old new o [] = tt
respelling_root old new None (own ∷ names) = tt
respelling_root old new (Some k) (own ∷ names) =
    elim (cases_Bool (same_name old own)) [
      | inl t ↦ rw t (refl, respelling_root old new (next_number k) names)
      | inr n ↦ rw n (respelling_root old new (Some k) names)
    ]

-- the work of each letter
abbrev HasRootEdits : Work → Type 0
HasRootEdits w = AreRootEdits w.edits

either_root : (t : Bool) (v w : Work) → HasRootEdits v → HasRootEdits w → HasRootEdits (if t then v else w)
either_root true v w h g = h
either_root false v w h g = g

dropped_root : (r : Removal) (names : List (List ℕ)) → HasRootEdits (dropped root_path r names)
dropped_root r names = mapped (λ own. RemoveField root_path own 1) (filter (goes r) names) (λ own. refl)

rename_root : (p : List ℕ × List ℕ) (names : List (List ℕ)) → HasRootEdits (rename_letter root_path p names)
rename_root p names =
    either_root (same_name p.0 p.1) (record { names = respelt p.0 p.1 (Some 1) names; edits = respelling root_path p.0 p.1 (Some 1) names })
    (record { names = replaced p.0 (λ own. p.1) names; edits = map (λ own. RenameField root_path p.0 1 p.1) (those p.0 names) }) (respelling_root p.0 p.1 (Some 1) names)
    (mapped (λ own. RenameField root_path p.0 1 p.1) (those p.0 names) (λ own. refl))

full_root : (eol : Ending) (field : List ℕ) (names : List (List ℕ)) → HasRootEdits (added_full root_path eol field names)
full_root eol field names = either_root (is_bare field) (untouched names) (added root_path eol field names) tt (refl, tt)

add_if_root : (eol : Ending) (field : List ℕ) (names : List (List ℕ)) → HasRootEdits (add_if_letter root_path eol field names)
add_if_root eol field names = either_root (list_any (same_name (name_in field)) names) (untouched names) (added root_path eol field names) tt (refl, tt)

prefixed_root : (eol : Ending) (field : List ℕ) (names : List (List ℕ)) → HasRootEdits (prefixed_letter root_path eol field names)
prefixed_root eol field names =
    let old = made_old root_path (name_in field) names in
    joined old.edits (added_full root_path eol field old.names).edits (mapped (λ own. RenameField root_path (name_in field) 1 (old_name own)) (those (name_in field) names) (λ own. refl)) (full_root eol field old.names)

only_root : (eol : Ending) (field : List ℕ) (names : List (List ℕ)) → HasRootEdits (only_letter root_path eol field names)
only_root eol field names =
    let gone = removed_all root_path (name_in field) names in
    joined gone.edits (added_full root_path eol field gone.names).edits (mapped (λ own. RemoveField root_path (name_in field) 1) (those (name_in field) names) (λ own. refl)) (full_root eol field gone.names)

first_root : (name : List ℕ) (names : List (List ℕ)) → HasRootEdits (first_letter root_path name names)
first_root name names = mapped (λ own. RemoveField root_path name 2) (drop 1 (those name names)) (λ own. refl)

last_root : (o : Option (List ℕ)) (names : List (List ℕ)) → AreRootEdits (option_map_or (λ name. map (λ own. RemoveField root_path name 1) (drop 1 (those name names))) o [])
last_root None names = tt
last_root (Some name) names = mapped (λ own. RemoveField root_path name 1) (drop 1 (those name names)) (λ own. refl)

letter_root : {X : Type 0} (f : X → List (List ℕ) → Work) (o : Option X) (w : Work) → ((x : X) (names : List (List ℕ)) → HasRootEdits (f x names)) → HasRootEdits w → HasRootEdits (letter f o w)
letter_root f None w k h = h
letter_root f (Some x) w k h = joined w.edits (f x w.names).edits h (k x w.names)

worked_root : (eol : Ending) (l : PlainLetters) (names : List (List ℕ)) → HasRootEdits (worked root_path eol l names)
worked_root eol l names =
    let renamed = letter (rename_letter root_path) l.rename (dropped root_path (removal_of l) names) in
    let with_if = letter (add_if_letter root_path eol) l.add_if renamed in
    let with_one = letter (added root_path eol) l.add with_if in
    let prefixed = letter (prefixed_letter root_path eol) l.prefixed with_one in
    let only = letter (only_letter root_path eol) l.only prefixed in
    letter_root (first_letter root_path) l.first only (λ name ns. first_root name ns)
    (letter_root (only_letter root_path eol) l.only prefixed (λ field ns. only_root eol field ns)
    (letter_root (prefixed_letter root_path eol) l.prefixed with_one (λ field ns. prefixed_root eol field ns)
    (letter_root (added root_path eol) l.add with_if (λ field ns. (refl, tt))
    (letter_root (add_if_letter root_path eol) l.add_if renamed (λ field ns. add_if_root eol field ns)
    (letter_root (rename_letter root_path) l.rename (dropped root_path (removal_of l) names) (λ p ns. rename_root p ns) (dropped_root (removal_of l) names))))))

named_root : (eol : Ending) (l : PlainLetters) (names : List (List ℕ)) → AreRootEdits (letter_edits root_path eol l names)
named_root eol l names =
    let w = worked root_path eol l names in
    joined w.edits (option_map_or (λ name. map (λ own. RemoveField root_path name 1) (drop 1 (those name w.names))) l.last []) (worked_root eol l names) (last_root l.last w.names)

prepending_root : (eol : Ending) (p : PlainPrepend) (o : Option ℕ) (fs : List FieldText) → AreRootEdits (prepending root_path eol p o fs)
prepending_root eol p o [] = tt
prepending_root eol p None (f ∷ fs) = tt
prepending_root eol p (Some k) (f ∷ fs) =
    elim (cases_Bool (is_named p.name f)) [
      | inl t ↦ rw t (refl, prepending_root eol p (if nat_lt k most_prepended then Some (k + 1) else None) fs)
      | inr n ↦ rw n (prepending_root eol p (Some k) fs)
    ]

prepend_root : (eol : Ending) (o : Option PlainPrepend) (fs : List FieldText) → AreRootEdits (option_map_or (λ p. prepending root_path eol p (Some 1) fs) o [])
prepend_root eol None fs = tt
prepend_root eol (Some p) fs = prepending_root eol p (Some 1) fs

pub edits_root : (text : List ℕ) (l : PlainLetters) → AreRootEdits (edits_at root_path text l)
edits_root text l =
    let eol = eol_of (cut text) in
    joined (option_map_or (λ p. prepending root_path eol p (Some 1) (fields_at root_path text)) l.prepend []) (letter_edits root_path eol l (names_at root_path text))
    (prepend_root eol l.prepend (fields_at root_path text)) (named_root eol l (names_at root_path text))

-- ---- what such edits give has other fields, and all else as it was

own_fields : (e : Entity) → with_fields (field_lines e) e ≡ e
own_fields (leaf h ls) = refl
own_fields (message h e) = refl
own_fields (multi h b pre ps t) = refl

fields_again : (fs gs : List TextLine) (e : Entity) → with_fields fs (with_fields gs e) ≡ with_fields fs e
fields_again fs gs (leaf h ls) = refl
fields_again fs gs (message h e) = refl
fields_again fs gs (multi h b pre ps t) = refl

pub fielded_on : (t u v : Document) → IsFielded t u → IsFielded u v → IsFielded t v
fielded_on t u v a b = record {
  fields = b.fields;
  same = b.same ∙ (ap (λ (d : Document). record { envelope = d.envelope; root = with_fields b.fields d.root }) a.same ∙ ap (λ r. record { envelope = t.envelope; root = r }) (fields_again b.fields a.fields t.root));
}

-- a plan for the fields of the root
abbrev IsFieldsPlan : Entity → Plan → Type 0
IsFieldsPlan s p = (p.around ≡ []) × ((fields : List TextLine) × (p.new ≡ with_fields fields s))

at_root : (e : PlainEdit) (path : List ℕ) (t : Document) → path ≡ root_path → Holds (IsFieldsPlan t.root) (plan_at e (eol_of (document_lines t)) [] t.root)
    → Holds (IsFieldsPlan t.root) (with_place (place_of path t.root) (plan_at e (eol_of (document_lines t))))
at_root e path t h k = subst (λ x. Holds (IsFieldsPlan t.root) (with_place (place_of x t.root) (plan_at e (eol_of (document_lines t))))) (sym h) k

root_plan : (e : PlainEdit) (t : Document) → IsRootEdit e → Holds (IsFieldsPlan t.root) (plan_of e t)
root_plan (AddField path top text) t h =
    at_root (AddField path top text) path t h
    (unless_holds (IsFieldsPlan t.root) (not (is_one_field (cut text))) BadField (Ok (add_plan [] t.root top (cut text))) (λ k. (refl, (with_added top (cut text) (field_lines t.root), refl))))
root_plan (RemoveField path name k) t h =
    at_root (RemoveField path name k) path t h
    (field_holds (IsFieldsPlan t.root) (field_at name k (field_lines t.root)) (λ f. Ok (drop_plan [] t.root f)) (λ f o. (refl, (f.before ++ f.after, refl))))
root_plan (RenameField path name k to) t h =
    at_root (RenameField path name k to) path t h
    (field_holds (IsFieldsPlan t.root) (field_at name k (field_lines t.root)) (λ f. unless (not (is_name to)) BadName (Ok (rename_plan [] t.root to f)))
    (λ f o. unless_holds (IsFieldsPlan t.root) (not (is_name to)) BadName (Ok (rename_plan [] t.root to f)) (λ k. (refl, (f.before ++ (renamed to f.start ∷ (f.more ++ f.after)), refl)))))
root_plan (SetField path name k text) t h =
    at_root (SetField path name k text) path t h
    (field_holds (IsFieldsPlan t.root) (field_at name k (field_lines t.root)) (λ f. unless (not (is_one_field (cut text))) BadField (Ok (change_plan [] t.root (cut text) f)))
    (λ f o. unless_holds (IsFieldsPlan t.root) (not (is_one_field (cut text))) BadField (Ok (change_plan [] t.root (cut text) f)) (λ k. (refl, (f.before ++ (cut text ++ f.after), refl)))))
root_plan (SetBody path text) t h = absurd h
root_plan (SetSection path text) t h = absurd h
root_plan (InsertPart path place text) t h = absurd h
root_plan (RemovePart path) t h = absurd h
root_plan (Wrap path subtype boundary) t h = absurd h

planned_so : (t u : Document) (r : Result Plan Refusal) → Holds (IsFieldsPlan t.root) r → Holds IsFair r → judged_by t.envelope r ≡ Ok u → IsFielded t u
planned_so t u (Err e) p f h = cc
planned_so t u (Ok plan) p f h =
    let j = subst (λ r. IsJudged r (planned t.envelope plan)) h (told t.envelope plan f) in
    record { fields = p.1.0; same = j.0 ∙ (λ i. put t.envelope (p.0 i) (p.1.1 i)) }

-- what edits gave, where they were accepted
abbrev FieldedBy : Document → Together → Type 0
FieldedBy t (Ok q) = IsFielded t q.0
FieldedBy t (Err q) = Unit {0}

after_fielded : (t u : Document) (ss : List Splice) (r : Together) → IsFielded t u → FieldedBy u r → FieldedBy t (following 1 ss r)
after_fielded t u ss (Ok q) a b = fielded_on t u q.0 a b
after_fielded t u ss (Err q) a b = tt

made_fielded : (t : Document) (ss : List Splice) (es : List PlainEdit) (r : Result Document Refusal) → ((u : Document) → r ≡ Ok u → IsFielded t u)
    → ((u : Document) → FieldedBy u (together es u)) → FieldedBy t (made_on ss (together es) r)
made_fielded t ss es (Ok u) k others = after_fielded t u ss (together es u) (k u refl) (others u)
made_fielded t ss es (Err e) k others = tt

pub as_it_was : (t : Document) → IsFielded t t
as_it_was t = record { fields = field_lines t.root; same = ap (λ r. record { envelope = t.envelope; root = r }) (sym (own_fields t.root)) }

together_fielded : (es : List PlainEdit) (t : Document) → AreRootEdits es → FieldedBy t (together es t)
together_fielded [] t h = as_it_was t
together_fielded (e ∷ es) t h =
    made_fielded t (splices_of e t) es (edited e t) (λ u k. planned_so t u (plan_of e t) (root_plan e t h.0) (fair e t) k) (λ u. together_fielded es u h.1)

-- ---- the lines before the body are not empty

abbrev AreSomeLines : List TextLine → Type 0
AreSomeLines [] = Unit {0}
AreSomeLines (l ∷ ls) = (is_nil l.content ≡ false) × AreSomeLines ls

some_append : (ls ms : List TextLine) → AreSomeLines ls → AreSomeLines ms → AreSomeLines (ls ++ ms)
some_append [] ms h g = g
some_append (l ∷ ls) ms h g = (h.0, some_append ls ms h.1 g)

some_content : (inside : Bool) (content : List ℕ) → (is_field_start content || (inside && is_continuation content)) ≡ true → is_nil content ≡ false
some_content true [] h = cc
some_content false [] h = cc
some_content inside (byte ∷ bytes) h = refl

run_some : (inside : Bool) (ls : List TextLine) → IsRun inside ls → AreSomeLines ls
run_some inside [] h = tt
run_some inside (l ∷ ls) h = (some_content inside l.content h.0, run_some true ls h.1)

from_some : (content : List ℕ) → is_from_line content ≡ true → is_nil content ≡ false
from_some [] h = cc
from_some (byte ∷ bytes) h = refl

-- the envelope is a From-line
env_some : (t : Bool) (l : TextLine) (ls : List TextLine) → is_from_line l.content ≡ t → AreSomeLines (option_to_list (enveloped t l ls).envelope)
env_some true l ls h = (from_some l.content h, tt)
env_some false l ls h = tt

envelope_some : (ls : List TextLine) → AreSomeLines (option_to_list (document_of ls).envelope)
envelope_some [] = tt
envelope_some (l ∷ ls) = env_some (is_from_line l.content) l ls refl

-- a From-line at the start is the envelope
start_from : (way : FromLines) (content : List ℕ) → is_mail_start way content ≡ true → is_from_line content ≡ true
start_from Any content h = h
start_from Dated content h = (both_true (is_from_line content) (ends_with_date content) h).0
start_from Fielded content h = h

-- without a look at what follows a From-line counts
free_followed : (way : FromLines) (ls : List TextLine) → needs_field way ≡ false → is_followed way ls ≡ true
free_followed way ls n = rw n refl

env_begins : (way : FromLines) (t : Bool) (l : TextLine) (ls more : List TextLine) → needs_field way ≡ false → is_from_line l.content ≡ t → is_mail_start way l.content ≡ true → begins_from way (option_to_list (enveloped t l ls).envelope ++ more) ≡ true
env_begins way true l ls more n h s = rw (s, free_followed way more n) refl
env_begins way false l ls more n h s = let from = start_from way l.content s in cc

envelope_begins : (way : FromLines) (ls more : List TextLine) → needs_field way ≡ false → begins_from way ls ≡ true → begins_from way (option_to_list (document_of ls).envelope ++ more) ≡ true
envelope_begins way [] more n h = cc
envelope_begins way (l ∷ ls) more n h = env_begins way (is_from_line l.content) l ls more n refl (both_true (is_mail_start way l.content) (is_followed way ls) h).0

root_run : (text : List ℕ) → IsRun false (field_lines (tree text).root)
root_run text =
    let p = root_of (tree text) in
    let s = site text (1 ∷ []) p refl in
    subst (IsRun false) (head_cut text (1 ∷ []) p s) (head_is_run text (1 ∷ []) p s)

-- ---- such lines change nothing of what follows them

whole_after : (way : FromLines) (ls rest : List TextLine) → AreSomeLines ls → IsWhole way false rest → IsWhole way false (ls ++ rest)
whole_after way [] rest h w = w
whole_after way (l ∷ ls) rest h w = (refl, subst (λ e. IsWhole way e (ls ++ rest)) (sym h.0) (whole_after way ls rest h.1 w))

whole_rest : (way : FromLines) (ls rest : List TextLine) → AreSomeLines ls → IsWhole way false (ls ++ rest) → IsWhole way false rest
whole_rest way [] rest h w = w
whole_rest way (l ∷ ls) rest h w = whole_rest way ls rest h.1 (subst (λ e. IsWhole way e (ls ++ rest)) h.0 w.1)

ends_after : (ls rest : List TextLine) → AreSomeLines ls → ends_empty false (ls ++ rest) ≡ ends_empty false rest
ends_after [] rest h = refl
ends_after (l ∷ ls) rest h = ap (λ e. ends_empty e (ls ++ rest)) h.0 ∙ ends_after ls rest h.1

-- lines with the same rest after others that aren't empty
same_rest : (way : FromLines) (old new front other rest : List TextLine) → old ≡ front ++ rest → new ≡ other ++ rest → AreSomeLines front → AreSomeLines other
    → (begins_from way old ≡ true → begins_from way new ≡ true) → IsWhole way false old → IsKept way old new
same_rest way old new front other rest o n f g b w = record {
  whole = subst (IsWhole way false) (sym n) (whole_after way other rest g (whole_rest way front rest f (subst (IsWhole way false) o w)));
  ends = λ h. ap (ends_empty false) n ∙ (ends_after other rest g ∙ (sym (ends_after front rest f) ∙ (sym (ap (ends_empty false) o) ∙ h)));
  begins = b;
}

-- ---- messages that letters filter

fielded_kept : (way : FromLines) (text : List ℕ) (u : Document) → needs_field way ≡ false → IsFielded (tree text) u → tree (printed u) ≡ u → IsWhole way false (cut text) → IsKept way (cut text) (cut (printed u))
fielded_kept way text u n a stable w =
    let t = tree text in
    let front = option_to_list t.envelope in
    let rest = after_fields t.root in
    let old_lines : cut text ≡ front ++ (field_lines t.root ++ rest) = sym (lines_kept text) ∙ ap (λ ls. front ++ ls) (entity_lines t.root) in
    let new_lines : cut (printed u) ≡ front ++ (a.fields ++ rest) =
    sym (lines_kept (printed u)) ∙ (ap document_lines (stable ∙ a.same) ∙ ap (λ ls. front ++ ls) (changed_lines a.fields t.root)) in
    let run : IsRun false a.fields = subst (IsRun false) (ap (λ (d : Document). field_lines d.root) (stable ∙ a.same) ∙ fields_are a.fields t.root) (root_run (printed u)) in
    let some = envelope_some (cut text) in
    same_rest way (cut text) (cut (printed u)) (front ++ field_lines t.root) (front ++ a.fields) rest
    (old_lines ∙ sym (append_assoc front (field_lines t.root) rest)) (new_lines ∙ sym (append_assoc front a.fields rest))
    (some_append front (field_lines t.root) some (run_some false (field_lines t.root) (root_run text))) (some_append front a.fields some (run_some false a.fields run))
    (λ h. ap (begins_from way) new_lines ∙ envelope_begins way (cut text) (a.fields ++ rest) n h) w

-- what the edits at the root give of a message, and the text that is left
abbrev pub outcome : PlainLetters → List ℕ → Together
outcome l text = outcome_at root_path l text

abbrev pub text_left : List ℕ → Together → List ℕ
text_left text r = result_unwrap_or (result_map_both (λ p. printed p.0) (λ q. q) r) text

kept_by : (way : FromLines) (es : List PlainEdit) (text : List ℕ) (r : Together) → needs_field way ≡ false → together es (tree text) ≡ r → FieldedBy (tree text) r → IsWhole way false (cut text) → IsKept way (cut text) (cut (text_left text r))
kept_by way es text (Ok q) n e a w = fielded_kept way text q.0 n a (groups_read_back_lem es text q.0 q.1 e) w
kept_by way es text (Err q) n e a w = record { whole = w; ends = λ h. h; begins = λ h. h }

-- edits of the root's fields keep what makes a message of its lines
pub edits_kept : (way : FromLines) (es : List PlainEdit) (text : List ℕ) → needs_field way ≡ false → AreRootEdits es → IsWhole way false (cut text) → IsKept way (cut text) (cut (text_left text (together es (tree text))))
edits_kept way es text n a w = kept_by way es text (together es (tree text)) n refl (together_fielded es (tree text) a) w

fielded_by : (es : List PlainEdit) (text : List ℕ) (r : Together) → together es (tree text) ≡ r → FieldedBy (tree text) r → IsFielded (tree text) (tree (text_left text r))
fielded_by es text (Ok q) e a = record { fields = a.fields; same = groups_read_back_lem es text q.0 q.1 e ∙ a.same }
fielded_by es text (Err q) e a = as_it_was (tree text)

-- they leave all but these fields as it was
pub edits_fielded : (es : List PlainEdit) (text : List ℕ) → AreRootEdits es → IsFielded (tree text) (tree (text_left text (together es (tree text))))
edits_fielded es text a = fielded_by es text (together es (tree text)) refl (together_fielded es (tree text) a)

pub fields_alone : (l : PlainLetters) (text : List ℕ) → IsFielded (tree text) (tree (filtered l text))
fields_alone l text = edits_fielded (edits_at root_path text l) text (edits_root text l)

pub filtered_kept : (way : FromLines) (l : PlainLetters) (text : List ℕ) → needs_field way ≡ false → IsWhole way false (cut text) → IsKept way (cut text) (cut (filtered l text))
filtered_kept way l text n w = edits_kept way (edits_at root_path text l) text n (edits_root text l) w

kept : (way : FromLines) (l : PlainLetters) (text : List ℕ) (alone : Bool) → needs_field way ≡ false → AreMessage way (cut text) → IsKept way (cut text) (cut (if alone then text else filtered l text))
kept way l text true n m = record { whole = m.1; ends = λ h. h; begins = λ h. h }
kept way l text false n m = filtered_kept way l text n m.1

pub filtered_apart : (way : FromLines) → needs_field way ≡ false → (l : PlainLetters) (text : List ℕ) → mailbox_pieces way (flat_map (filtered_in way l) (mailbox_pieces way text)) ≡ filter is_left (map (filtered_in way l) (mailbox_pieces way text))
filtered_apart way n l text = kept_apart way (filtered_in way l) (λ message m. kept way l message (is_left_alone way message) n m) text
