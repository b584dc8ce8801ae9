-- The names of fields that letters go by are those of the document.
use Rattle.std.proofs.Common.{◌≡◌, ◌++◌, ◌+◌, ◌&&◌, if◌then◌else◌, ℕ, zero, suc, Bool, true, false, not, Option, None, Some, Result, Ok, Err, List, [], ◌∷◌, bytes_eq, drop, filter, length, map, nat_lt, take, ◌||◌, refl, ap, sym, ◌∙◌, subst, append_assoc, arith, inl, inr, codes}
use Rattle.std.specs.List.{list_all, list_any, prefix_len}
use Rattle.std.specs.Option.{option_map}
use Rattle.std.specs.Str.{str_to_ascii_lowercase}
use Rattle.std.proofs.lemmas.Bool.{cases_Bool}
use Rattle.std.proofs.lemmas.Slice.Eq.{bytes_eq-Decides}
use Rattle.mk_line.specs.Ascii.{is_name_byte}
use Rattle.mk_line.specs.declared.cutting.Ending.{Ending}
use Rattle.mk_line.specs.declared.cutting.Ending.TheVariants.{Crlf, Lf, Missing}
use Rattle.mk_line.specs.Kinds.{is_name}
use Rattle.mk_line.specs.Lines.{TextLine, cut, ending_bytes, is_nil}
use Rattle.mk_head.specs.Split.{is_more, is_start}
use Rattle.mk_head.specs.Fields.{continuations, field_text, fields_of, is_named, is_one_field, name_of, after_more}
use Rattle.mk_head.proofs.FieldRuns.{more_start}
use Rattle.mk_splice.specs.Splices.{Splice}
use Rattle.mk_tree.specs.Tree.{Entity, leaf, message, multi, field_lines, with_fields}
use Rattle.mk_tree.specs.Documents.{Document}
use Rattle.mk_tree.specs.Sections.{Placed, section_at}
use Rattle.mk_tree.specs.Places.{Frame, placed}
use Rattle.mk_decide.specs.Edits.{PlainEdit, AddField, RemoveField, RenameField, Refusal, BadField, BadName}
use Rattle.mk_decide.specs.EditSplices.{splices_of}
use Rattle.mk_decide.specs.FieldEdits.{Found, field_at, find, found_after, renamed, starts_named}
use Rattle.mk_decide.specs.Outcomes.{edited}
use Rattle.mk_decide.specs.Plans.{Plan, fields_plan, place_of, plan_of, planned, unless}
use Rattle.mk_decide.proofs.PlanNames.{add_plan, drop_plan, rename_plan}
use Rattle.mk_decide.proofs.Counting.{names_lem}
use Rattle.mk_decide.proofs.Accepted.{found_ok, none_some, ok_same, plan_by, some_same, there_again, unless_ok}
use Rattle.mk_decide.proofs.EveryEdit.{plan_there}
use Rattle.mk_decide.proofs.Late.{fair}
use Rattle.mk_decide.proofs.PlacesAgain.{section_there}
use Rattle.mk_decide.proofs.Renaming.{renamed_start}
use Rattle.mk_edit.specs.Groups.{Together, following, made_on, together}
use Rattle.mk_mail.specs.Letters.{Removal, goes, is_left_out, removal_of, PlainLetters, PlainPattern, Work, add_if_letter, added, added_full, dropped, first_letter, is_bare, is_dropped, is_meant, letter, made_old, name_in, next_number, old_name, only_letter, others, prefixed_letter, removed_all, rename_letter, replaced, respelling, respelt, same_name, then_do, those, with_first, worked}
use Rattle.mk_view.specs.Listed.{greatest_number}
use Rattle.mk_mail.specs.Tracked.{own_names}
use Rattle.mk_mail.proofs.FieldLines.{first_content, name_first, name_one}
use Rattle.mk_mail.proofs.FieldNames.{both_true}

-- ---- names of lines

and_no : (a b : Bool) → a ≡ true → (a && b) ≡ false → b ≡ false
and_no true b t h = h
and_no false b t h = cc

abbrev names_in : List TextLine → List (List ℕ)
names_in ls = map (λ f. f.name) (fields_of ls)

one_more : (l : TextLine) (ls : List TextLine) → is_start l ≡ true → names_in (l ∷ ls) ≡ name_of l ∷ names_in ls
one_more l ls h = rw h refl

no_more : (l : TextLine) (ls : List TextLine) → is_start l ≡ false → names_in (l ∷ ls) ≡ names_in ls
no_more l ls h = rw h refl

names_joined : (xs ys : List TextLine) → names_in (xs ++ ys) ≡ names_in xs ++ names_in ys
names_joined [] ys = refl
names_joined (x ∷ xs) ys = elim (cases_Bool (is_start x)) [
  | inl start ↦ one_more x (xs ++ ys) start ∙ (ap (λ (ns : List (List ℕ)). name_of x ∷ ns) (names_joined xs ys) ∙ ap (λ (ns : List (List ℕ)). ns ++ names_in ys) (sym (one_more x xs start)))
  | inr other ↦ no_more x (xs ++ ys) other ∙ (names_joined xs ys ∙ ap (λ (ns : List (List ℕ)). ns ++ names_in ys) (sym (no_more x xs other)))
]

past_more : (ls : List TextLine) → names_in (after_more ls) ≡ names_in ls
past_more [] = refl
past_more (l ∷ ls) = elim (cases_Bool (is_more l)) [
  | inl more ↦ rw more (past_more ls ∙ sym (no_more l ls (more_start l more)))
  | inr other ↦ rw other refl
]

both_parts : (ls : List TextLine) → continuations ls ++ after_more ls ≡ ls
both_parts [] = refl
both_parts (l ∷ ls) = elim (cases_Bool (is_more l)) [
  | inl more ↦ rw more (ap (λ (xs : List TextLine). l ∷ xs) (both_parts ls))
  | inr other ↦ rw other refl
]

none_among : (ls : List TextLine) → list_all is_more ls ≡ true → names_in ls ≡ []
none_among [] h = refl
none_among (l ∷ ls) h = let b = both_true (is_more l) (list_all is_more ls) h in no_more l ls (more_start l b.0) ∙ none_among ls b.1

-- ---- one name

-- names without the k-th that is one, counted from 0
abbrev without_one : List ℕ → ℕ → List (List ℕ) → List (List ℕ)
without_one name k [] = []
without_one name zero (own ∷ names) = if same_name name own then names else own ∷ without_one name zero names
without_one name (suc k) (own ∷ names) = own ∷ without_one name (if same_name name own then k else suc k) names

-- names with another in its place
abbrev with_other : List ℕ → List ℕ → ℕ → List (List ℕ) → List (List ℕ)
with_other name new k [] = []
with_other name new zero (own ∷ names) = if same_name name own then new ∷ names else own ∷ with_other name new zero names
with_other name new (suc k) (own ∷ names) = own ∷ with_other name new (if same_name name own then k else suc k) names

none_found : {A : Type 0} (f : Found) → ◌≡◌ {A = Option Found} None (Some f) → A
none_found f e = cc

same_found : (f g : Found) → ◌≡◌ {A = Option Found} (Some f) (Some g) → f ≡ g
same_found f g e = cc

-- what is found after a line
later_by : (P : Found → Type 0) (l : TextLine) (o : Option Found) (f : Found) → ((g : Found) → o ≡ Some g → P (record { before = l ∷ g.before; start = g.start; more = g.more; after = g.after })) → found_after l o ≡ Some f → P f
later_by P l None f rest e = none_found f e
later_by P l (Some g) f rest e = subst P (same_found (record { before = l ∷ g.before; start = g.start; more = g.more; after = g.after }) f e) (rest g refl)

-- a line that begins no field of the name comes before
gone_past : (name : List ℕ) (k j : ℕ) (l : TextLine) (ls xs : List TextLine) → ((own : List ℕ) → own ≡ name_of l → is_start l ≡ true → (ns : List (List ℕ)) → without_one name k (own ∷ ns) ≡ own ∷ without_one name j ns) → (is_start l ≡ false → k ≡ j)
    → names_in xs ≡ without_one name j (names_in ls) → names_in (l ∷ xs) ≡ without_one name k (names_in (l ∷ ls))
gone_past name k j l ls xs step stay rest = elim (cases_Bool (is_start l)) [
  | inl start ↦ one_more l xs start ∙ (ap (λ (ns : List (List ℕ)). name_of l ∷ ns) rest ∙ (sym (step (name_of l) refl start (names_in ls)) ∙ ap (without_one name k) (sym (one_more l ls start))))
  | inr other ↦ no_more l xs other ∙ (rest ∙ (ap (λ i. without_one name i (names_in ls)) (sym (stay other)) ∙ ap (without_one name k) (sym (no_more l ls other))))
]

unnamed : (name : List ℕ) (l : TextLine) → starts_named name l ≡ false → is_start l ≡ true → same_name name (name_of l) ≡ false
unnamed name l h start = and_no (is_start l) (is_named name (field_text l [])) start h

unstarted : (name : List ℕ) (l : TextLine) {A : Type 0} → starts_named name l ≡ true → is_start l ≡ false → A
unstarted name l h other = let start = (both_true (is_start l) (is_named name (field_text l [])) h).0 in cc

-- the k-th field of a name goes
gone : (name : List ℕ) (k : ℕ) (ls : List TextLine) (f : Found) → find (starts_named name) k ls ≡ Some f → names_in (f.before ++ f.after) ≡ without_one name k (names_in ls)
gone name k [] f e = none_found f e
gone name zero (l ∷ ls) f e = elim (cases_Bool (starts_named name l)) [
  | inl named ↦
      let b = both_true (is_start l) (is_named name (field_text l [])) named in
      let now : Found = record { before = []; start = l; more = continuations ls; after = after_more ls } in
      let hit : without_one name zero (name_of l ∷ names_in ls) ≡ names_in ls = rw b.1 refl in
      subst (λ (x : Found). names_in (x.before ++ x.after) ≡ without_one name zero (names_in (l ∷ ls))) (same_found now f (rw named at e)) (past_more ls ∙ (sym hit ∙ ap (without_one name zero) (sym (one_more l ls b.0))))
  | inr other ↦
      later_by (λ (x : Found). names_in (x.before ++ x.after) ≡ without_one name zero (names_in (l ∷ ls))) l (find (starts_named name) zero ls) f
      (λ g h. gone_past name zero zero l ls (g.before ++ g.after) (λ own is start ns. rw (ap (same_name name) is ∙ unnamed name l other start) refl) (λ _. refl) (gone name zero ls g h)) (rw other at e)
]
gone name (suc k) (l ∷ ls) f e = elim (cases_Bool (starts_named name l)) [
  | inl named ↦
      let b = both_true (is_start l) (is_named name (field_text l [])) named in
      later_by (λ (x : Found). names_in (x.before ++ x.after) ≡ without_one name (suc k) (names_in (l ∷ ls))) l (find (starts_named name) k ls) f
      (λ g h. gone_past name (suc k) k l ls (g.before ++ g.after) (λ own is start ns. rw (ap (same_name name) is ∙ b.1) refl) (λ none. unstarted name l named none) (gone name k ls g h)) (rw named at e)
  | inr other ↦
      later_by (λ (x : Found). names_in (x.before ++ x.after) ≡ without_one name (suc k) (names_in (l ∷ ls))) l (find (starts_named name) (suc k) ls) f
      (λ g h. gone_past name (suc k) (suc k) l ls (g.before ++ g.after) (λ own is start ns. rw (ap (same_name name) is ∙ unnamed name l other start) refl) (λ _. refl) (gone name (suc k) ls g h)) (rw other at e)
]

other_past : (name new : List ℕ) (k j : ℕ) (l : TextLine) (ls xs : List TextLine) → ((own : List ℕ) → own ≡ name_of l → is_start l ≡ true → (ns : List (List ℕ)) → with_other name new k (own ∷ ns) ≡ own ∷ with_other name new j ns) → (is_start l ≡ false → k ≡ j)
    → names_in xs ≡ with_other name new j (names_in ls) → names_in (l ∷ xs) ≡ with_other name new k (names_in (l ∷ ls))
other_past name new k j l ls xs step stay rest = elim (cases_Bool (is_start l)) [
  | inl start ↦ one_more l xs start ∙ (ap (λ (ns : List (List ℕ)). name_of l ∷ ns) rest ∙ (sym (step (name_of l) refl start (names_in ls)) ∙ ap (with_other name new k) (sym (one_more l ls start))))
  | inr other ↦ no_more l xs other ∙ (rest ∙ (ap (λ i. with_other name new i (names_in ls)) (sym (stay other)) ∙ ap (with_other name new k) (sym (no_more l ls other))))
]

-- the k-th field of a name gets another
changed : (name new : List ℕ) (k : ℕ) (ls : List TextLine) (f : Found) → is_name new ≡ true → find (starts_named name) k ls ≡ Some f → names_in (f.before ++ (renamed new f.start ∷ (f.more ++ f.after))) ≡ with_other name new k (names_in ls)
changed name new k [] f n e = none_found f e
changed name new zero (l ∷ ls) f n e = elim (cases_Bool (starts_named name l)) [
  | inl named ↦
      let b = both_true (is_start l) (is_named name (field_text l [])) named in
      let now : Found = record { before = []; start = l; more = continuations ls; after = after_more ls } in
      let hit : with_other name new zero (name_of l ∷ names_in ls) ≡ new ∷ names_in ls = rw b.1 refl in
      let first : names_in (renamed new l ∷ ls) ≡ new ∷ names_in ls = one_more (renamed new l) ls (renamed_start new l n b.0) ∙ ap (λ (own : List ℕ). own ∷ names_in ls) (names_lem new l n b.0).0 in
      subst (λ (x : Found). names_in (x.before ++ (renamed new x.start ∷ (x.more ++ x.after))) ≡ with_other name new zero (names_in (l ∷ ls))) (same_found now f (rw named at e))
      (ap (λ (xs : List TextLine). names_in (renamed new l ∷ xs)) (both_parts ls) ∙ (first ∙ (sym hit ∙ ap (with_other name new zero) (sym (one_more l ls b.0)))))
  | inr other ↦
      later_by (λ (x : Found). names_in (x.before ++ (renamed new x.start ∷ (x.more ++ x.after))) ≡ with_other name new zero (names_in (l ∷ ls))) l (find (starts_named name) zero ls) f
      (λ g h. other_past name new zero zero l ls (g.before ++ (renamed new g.start ∷ (g.more ++ g.after))) (λ own is start ns. rw (ap (same_name name) is ∙ unnamed name l other start) refl) (λ _. refl) (changed name new zero ls g n h)) (rw other at e)
]
changed name new (suc k) (l ∷ ls) f n e = elim (cases_Bool (starts_named name l)) [
  | inl named ↦
      let b = both_true (is_start l) (is_named name (field_text l [])) named in
      later_by (λ (x : Found). names_in (x.before ++ (renamed new x.start ∷ (x.more ++ x.after))) ≡ with_other name new (suc k) (names_in (l ∷ ls))) l (find (starts_named name) k ls) f
      (λ g h. other_past name new (suc k) k l ls (g.before ++ (renamed new g.start ∷ (g.more ++ g.after))) (λ own is start ns. rw (ap (same_name name) is ∙ b.1) refl) (λ none. unstarted name l named none) (changed name new k ls g n h)) (rw named at e)
  | inr other ↦
      later_by (λ (x : Found). names_in (x.before ++ (renamed new x.start ∷ (x.more ++ x.after))) ≡ with_other name new (suc k) (names_in (l ∷ ls))) l (find (starts_named name) (suc k) ls) f
      (λ g h. other_past name new (suc k) (suc k) l ls (g.before ++ (renamed new g.start ∷ (g.more ++ g.after))) (λ own is start ns. rw (ap (same_name name) is ∙ unnamed name l other start) refl) (λ _. refl) (changed name new (suc k) ls g n h)) (rw other at e)
]

-- ---- documents

-- the section at a path has fields of these names
record Has (path : List ℕ) (names : List (List ℕ)) (t : Document) : Type 0 where
  around : List Frame
  section : Entity
  there : place_of path t.root ≡ Some (around, section)
  named : names_in (field_lines section) ≡ names

fields_now : (fields : List TextLine) (s : Entity) → field_lines (with_fields fields s) ≡ fields
fields_now fields (leaf h ls) = refl
fields_now fields (message h e) = refl
fields_now fields (multi h b pre ps t) = refl

moved : (path : List ℕ) (names : List (List ℕ)) (new given : List TextLine) (t u : Document) (fs : List Frame) (s : Entity) → place_of path t.root ≡ Some (fs, s) → u ≡ planned t.envelope (fields_plan fs s new given) → names_in new ≡ names → Has path names u
moved path names new given t u fs s at gives is = record {
  around = fs;
  section = with_fields new s;
  there = ap (λ (d : Document). place_of path d.root) gives ∙ there_again path t.root fs s (with_fields new s) at;
  named = ap names_in (fields_now new s) ∙ is;
}

removed : (path name : List ℕ) (k : ℕ) (names : List (List ℕ)) (t u : Document) → Has path names t → edited (RemoveField path name (suc k)) t ≡ Ok u → Has path (without_one name k names) u
removed path name k names t u has done =
    let s = has.section in
    let e = RemoveField path name (suc k) in
    let plan = plan_by t u e (plan_of e t) refl (fair e t) done in
    let f = found_ok (field_at name (suc k) (field_lines s)) (λ f. Ok (drop_plan has.around s f)) plan.plan (plan_there e t has.around s plan.plan has.there plan.is) in
    moved path (without_one name k names) (f.0.before ++ f.0.after) [] t u has.around s has.there (plan.gives ∙ ap (planned t.envelope) (sym (ok_same (drop_plan has.around s f.0) plan.plan f.2)))
    (gone name k (field_lines s) f.0 f.1 ∙ ap (without_one name k) has.named)

bad_name : {A : Type 0} (p : Plan) → ◌≡◌ {A = Result Plan Refusal} (Err BadName) (Ok p) → A
bad_name p h = cc

name_ok : (t : Bool) (a p : Plan) → unless (not t) BadName (Ok a) ≡ Ok p → t ≡ true
name_ok true a p h = refl
name_ok false a p h = bad_name p h

given_name : (path name new : List ℕ) (k : ℕ) (names : List (List ℕ)) (t u : Document) → Has path names t → edited (RenameField path name (suc k) new) t ≡ Ok u → Has path (with_other name new k names) u
given_name path name new k names t u has done =
    let s = has.section in
    let e = RenameField path name (suc k) new in
    let plan = plan_by t u e (plan_of e t) refl (fair e t) done in
    let f = found_ok (field_at name (suc k) (field_lines s)) (λ f. unless (not (is_name new)) BadName (Ok (rename_plan has.around s new f))) plan.plan (plan_there e t has.around s plan.plan has.there plan.is) in
    let n = name_ok (is_name new) (rename_plan has.around s new f.0) plan.plan f.2 in
    let is : rename_plan has.around s new f.0 ≡ plan.plan = unless_ok (not (is_name new)) BadName (rename_plan has.around s new f.0) plan.plan f.2 in
    moved path (with_other name new k names) (f.0.before ++ (renamed new f.0.start ∷ (f.0.more ++ f.0.after))) (renamed new f.0.start ∷ []) t u has.around s has.there (plan.gives ∙ ap (planned t.envelope) (sym is))
    (changed name new k (field_lines s) f.0 n f.1 ∙ ap (with_other name new k) has.named)

bad_field : {A : Type 0} (p : Plan) → ◌≡◌ {A = Result Plan Refusal} (Err BadField) (Ok p) → A
bad_field p h = cc

field_ok : (t : Bool) (a p : Plan) → unless (not t) BadField (Ok a) ≡ Ok p → t ≡ true
field_ok true a p h = refl
field_ok false a p h = bad_field p h

-- the name of one field
one_named : (ls : List TextLine) → is_one_field ls ≡ true → names_in ls ≡ take (prefix_len is_name_byte (first_content ls)) (first_content ls) ∷ []
one_named [] h = cc
one_named (l ∷ ls) h =
    let b = both_true (is_start l) (list_all is_more ls) h in
    one_more l ls b.0 ∙ ap (λ (ns : List (List ℕ)). name_of l ∷ ns) (none_among ls b.1)

given_field : (path text : List ℕ) (names : List (List ℕ)) (t u : Document) → Has path names t → edited (AddField path false text) t ≡ Ok u → Has path (names ++ name_in text ∷ []) u
given_field path text names t u has done =
    let s = has.section in
    let e = AddField path false text in
    let plan = plan_by t u e (plan_of e t) refl (fair e t) done in
    let there = plan_there e t has.around s plan.plan has.there plan.is in
    let one = field_ok (is_one_field (cut text)) (add_plan has.around s false (cut text)) plan.plan there in
    let is : add_plan has.around s false (cut text) ≡ plan.plan = unless_ok (not (is_one_field (cut text))) BadField (add_plan has.around s false (cut text)) plan.plan there in
    moved path (names ++ name_in text ∷ []) (field_lines s ++ cut text) (cut text) t u has.around s has.there (plan.gives ∙ ap (planned t.envelope) (sym is))
    (names_joined (field_lines s) (cut text) ∙ (ap (λ (ns : List (List ℕ)). ns ++ names_in (cut text)) has.named ∙ ap (λ (ns : List (List ℕ)). names ++ ns) (one_named (cut text) one ∙ ap (λ (own : List ℕ). own ∷ []) (name_first text))))

-- ---- edits one after another

bad_pair : {A : Type 0} (q : ℕ × Refusal) (p : Document × List Splice) → ◌≡◌ {A = Together} (Err q) (Ok p) → A
bad_pair q p h = cc

good_pair : (p q : Document × List Splice) → ◌≡◌ {A = Together} (Ok p) (Ok q) → p ≡ q
good_pair p q h = cc

followed : (ss : List Splice) (r : Together) (p : Document × List Splice) → following 1 ss r ≡ Ok p → (q : Document × List Splice) × (r ≡ Ok q) × (q.0 ≡ p.0)
followed ss (Ok q) p h = (q, refl, ap (λ (x : Document × List Splice). x.0) (good_pair (q.0, ss ++ q.1) p h))
followed ss (Err q) p h = bad_pair (1 + q.0, q.1) p h

first_made : (ss : List Splice) (others : Document → Together) (r : Result Document Refusal) (p : Document × List Splice) → made_on ss others r ≡ Ok p → (t : Document) × (r ≡ Ok t) × (q : Document × List Splice) × (others t ≡ Ok q) × (q.0 ≡ p.0)
first_made ss others (Ok t) p h = let f = followed ss (others t) p h in (t, refl, f.0, f.1, f.2)
first_made ss others (Err e) p h = bad_pair (0, e) p h

-- edits lead from names to names
abbrev Leads : List ℕ → List PlainEdit → List (List ℕ) → List (List ℕ) → Type 0
Leads path edits names new = (t : Document) (p : Document × List Splice) → Has path names t → together edits t ≡ Ok p → Has path new p.0

leads_nowhere : (path : List ℕ) (names : List (List ℕ)) → Leads path [] names names
leads_nowhere path names t p has done = subst (λ (x : Document × List Splice). Has path names x.0) (good_pair (t, []) p done) has

leads_on : (path : List ℕ) (e : PlainEdit) (es : List PlainEdit) (names mid new : List (List ℕ)) → ((t u : Document) → Has path names t → edited e t ≡ Ok u → Has path mid u) → Leads path es mid new → Leads path (e ∷ es) names new
leads_on path e es names mid new step rest t p has done =
    let f = first_made (splices_of e t) (together es) (edited e t) p done in
    subst (Has path new) f.4 (rest f.0 f.2 (step t f.0 has f.1) f.3)

-- the edits before others, and the others after them
parted : (xs ys : List PlainEdit) (t : Document) (p : Document × List Splice) → together (xs ++ ys) t ≡ Ok p
    → (q : Document × List Splice) × (together xs t ≡ Ok q) × (r : Document × List Splice) × (together ys q.0 ≡ Ok r) × (r.0 ≡ p.0)
parted [] ys t p h = ((t, []), refl, p, h, refl)
parted (x ∷ xs) ys t p h =
    let f = first_made (splices_of x t) (together (xs ++ ys)) (edited x t) p h in
    let rest = parted xs ys f.0 f.2 f.3 in
    ((rest.0.0, splices_of x t ++ rest.0.1), ap (made_on (splices_of x t) (together xs)) f.1 ∙ ap (following 1 (splices_of x t)) rest.1, rest.2, rest.3, rest.4 ∙ f.4)

leads_both : (path : List ℕ) (xs ys : List PlainEdit) (names mid new : List (List ℕ)) → Leads path xs names mid → Leads path ys mid new → Leads path (xs ++ ys) names new
leads_both path xs ys names mid new a b = λ t p has done.
    let s = parted xs ys t p done in
    subst (Has path new) s.4 (b s.0.0 s.2 (a t s.0 has s.1) s.3)

leads_to : (path : List ℕ) (es : List PlainEdit) (names mid new : List (List ℕ)) → mid ≡ new → Leads path es names mid → Leads path es names new
leads_to path es names mid new e a = λ t p has done. subst (λ (ns : List (List ℕ)). Has path ns p.0) e (a t p has done)

-- ---- fields that go

-- the k-th that is one goes, as often as there are others
abbrev gone_times : List ℕ → ℕ → List (List ℕ) → List (List ℕ) → List (List ℕ)
gone_times name k [] names = names
gone_times name k (x ∷ xs) names = gone_times name k xs (without_one name k names)

leads_gone : (path name : List ℕ) (k : ℕ) (xs names : List (List ℕ)) → Leads path (map (λ own. RemoveField path name (suc k)) xs) names (gone_times name k xs names)
leads_gone path name k [] names = leads_nowhere path names
leads_gone path name k (x ∷ xs) names =
    leads_on path (RemoveField path name (suc k)) (map (λ own. RemoveField path name (suc k)) xs) names (without_one name k names) (gone_times name k xs (without_one name k names)) (λ t u has done. removed path name k names t u has done)
    (leads_gone path name k xs (without_one name k names))

gone_other : (name own : List ℕ) (k : ℕ) (xs names : List (List ℕ)) → same_name name own ≡ false → gone_times name k xs (own ∷ names) ≡ own ∷ gone_times name k xs names
gone_other name own k [] names h = refl
gone_other name own zero (x ∷ xs) names h =
    let step : without_one name zero (own ∷ names) ≡ own ∷ without_one name zero names = rw h refl in
    ap (gone_times name zero xs) step ∙ gone_other name own zero xs (without_one name zero names) h
gone_other name own (suc k) (x ∷ xs) names h =
    let step : without_one name (suc k) (own ∷ names) ≡ own ∷ without_one name (suc k) names = rw h refl in
    ap (gone_times name (suc k) xs) step ∙ gone_other name own (suc k) xs (without_one name (suc k) names) h

-- all go
all_gone : (name : List ℕ) (names : List (List ℕ)) → gone_times name zero (those name names) names ≡ others name names
all_gone name [] = refl
all_gone name (own ∷ names) = elim (cases_Bool (same_name name own)) [
  | inl same ↦
      let step : without_one name zero (own ∷ names) ≡ names = rw same refl in
      rw same (ap (gone_times name zero (those name names)) step ∙ all_gone name names)
  | inr other ↦ rw other (gone_other name own zero (those name names) names other ∙ ap (λ (ns : List (List ℕ)). own ∷ ns) (all_gone name names))
]

gone_second : (name own : List ℕ) (xs names : List (List ℕ)) → same_name name own ≡ true → gone_times name 1 xs (own ∷ names) ≡ own ∷ gone_times name zero xs names
gone_second name own [] names h = refl
gone_second name own (x ∷ xs) names h =
    let step : without_one name 1 (own ∷ names) ≡ own ∷ without_one name zero names = rw h refl in
    ap (gone_times name 1 xs) step ∙ gone_second name own xs (without_one name zero names) h

-- all but the first go
later_gone : (name : List ℕ) (names : List (List ℕ)) → gone_times name 1 (drop 1 (those name names)) names ≡ with_first name names
later_gone name [] = refl
later_gone name (own ∷ names) = elim (cases_Bool (same_name name own)) [
  | inl same ↦ rw same (gone_second name own (those name names) names same ∙ ap (λ (ns : List (List ℕ)). own ∷ ns) (all_gone name names))
  | inr other ↦ rw other (gone_other name own 1 (drop 1 (those name names)) names other ∙ ap (λ (ns : List (List ℕ)). own ∷ ns) (later_gone name names))
]

-- ---- fields that get another name

abbrev renamed_times : List ℕ → (List ℕ → List ℕ) → List (List ℕ) → List (List ℕ) → List (List ℕ)
renamed_times name f [] names = names
renamed_times name f (x ∷ xs) names = renamed_times name f xs (with_other name (f x) zero names)

leads_renamed : (path name : List ℕ) (f : List ℕ → List ℕ) (xs names : List (List ℕ)) → Leads path (map (λ own. RenameField path name 1 (f own)) xs) names (renamed_times name f xs names)
leads_renamed path name f [] names = leads_nowhere path names
leads_renamed path name f (x ∷ xs) names =
    leads_on path (RenameField path name 1 (f x)) (map (λ own. RenameField path name 1 (f own)) xs) names (with_other name (f x) zero names) (renamed_times name f xs (with_other name (f x) zero names))
    (λ t u has done. given_name path name (f x) zero names t u has done) (leads_renamed path name f xs (with_other name (f x) zero names))

renamed_other : (name own : List ℕ) (f : List ℕ → List ℕ) (xs names : List (List ℕ)) → same_name name own ≡ false → renamed_times name f xs (own ∷ names) ≡ own ∷ renamed_times name f xs names
renamed_other name own f [] names h = refl
renamed_other name own f (x ∷ xs) names h =
    let step : with_other name (f x) zero (own ∷ names) ≡ own ∷ with_other name (f x) zero names = rw h refl in
    ap (renamed_times name f xs) step ∙ renamed_other name own f xs (with_other name (f x) zero names) h

all_renamed : (name : List ℕ) (f : List ℕ → List ℕ) (names : List (List ℕ)) → ((own : List ℕ) → same_name name own ≡ true → same_name name (f own) ≡ false) → renamed_times name f (those name names) names ≡ replaced name f names
all_renamed name f [] new = refl
all_renamed name f (own ∷ names) new = elim (cases_Bool (same_name name own)) [
  | inl same ↦
      let step : with_other name (f own) zero (own ∷ names) ≡ f own ∷ names = rw same refl in
      rw same (ap (renamed_times name f (those name names)) step ∙ (renamed_other name (f own) f (those name names) names (new own same) ∙ ap (λ (ns : List (List ℕ)). f own ∷ ns) (all_renamed name f names new)))
  | inr other ↦ rw other (renamed_other name own f (those name names) names other ∙ ap (λ (ns : List (List ℕ)). own ∷ ns) (all_renamed name f names new))
]

-- a name after `Old-` is another
longer : (name own : List ℕ) → same_name name own ≡ true → same_name name (old_name own) ≡ false
longer name own h = elim (cases_Bool (same_name name (old_name own))) [
  | inr other ↦ other
  | inl same ↦
      let one = ap length ((bytes_eq-Decides (str_to_ascii_lowercase own) (str_to_ascii_lowercase name)).0 h) in
      let two = ap length ((bytes_eq-Decides (str_to_ascii_lowercase (old_name own)) (str_to_ascii_lowercase name)).0 same) in
      absurd (sizes (sym (lowered_size own) ∙ (one ∙ lowered_size name)) (sym (lowered_size (old_name own)) ∙ (two ∙ lowered_size name)))
]
  where
    lowered_size : (xs : List ℕ) → length (str_to_ascii_lowercase xs) ≡ length xs
    lowered_size [] = refl
    lowered_size (x ∷ xs) = ap suc (lowered_size xs)

    sizes : length own ≡ length name → length (old_name own) ≡ length name → ⊥
    sizes a b = let four : length (old_name own) ≡ suc (suc (suc (suc (length own)))) = refl in omega (arith, a, b, four)

-- ---- a name that is spelt in another way

-- how many are that name
abbrev count_those : List ℕ → List (List ℕ) → ℕ
count_those name [] = zero
count_those name (own ∷ names) = if same_name name own then suc (count_those name names) else count_those name names

put_at : (name own new : List ℕ) (m : ℕ) (done names : List (List ℕ)) → count_those name done ≡ m → same_name name own ≡ true → with_other name new m (done ++ own ∷ names) ≡ done ++ new ∷ names
put_at name own new m [] names c h = subst (λ i. with_other name new i (own ∷ names) ≡ new ∷ names) c (rw h refl)
put_at name own new zero (d ∷ done) names c h = elim (cases_Bool (same_name name d)) [
  | inl same ↦ let bad : suc (count_those name done) ≡ zero = (rw same at c) in cc
  | inr other ↦ rw other (ap (λ (ns : List (List ℕ)). d ∷ ns) (put_at name own new zero done names (rw other at c) h))
]
put_at name own new (suc m) (d ∷ done) names c h = elim (cases_Bool (same_name name d)) [
  | inl same ↦ let less : suc (count_those name done) ≡ suc m = (rw same at c) in rw same (ap (λ (ns : List (List ℕ)). d ∷ ns) (put_at name own new m done names (omega (arith, less)) h))
  | inr other ↦ rw other (ap (λ (ns : List (List ℕ)). d ∷ ns) (put_at name own new (suc m) done names (rw other at c) h))
]

count_more : (name x : List ℕ) (done : List (List ℕ)) → same_name name x ≡ true → count_those name (done ++ x ∷ []) ≡ suc (count_those name done)
count_more name x [] h = rw h refl
count_more name x (d ∷ done) h = elim (cases_Bool (same_name name d)) [
  | inl same ↦ rw same (ap suc (count_more name x done h))
  | inr other ↦ rw other (count_more name x done h)
]

count_still : (name x : List ℕ) (done : List (List ℕ)) → same_name name x ≡ false → count_those name (done ++ x ∷ []) ≡ count_those name done
count_still name x [] h = rw h refl
count_still name x (d ∷ done) h = elim (cases_Bool (same_name name d)) [
  | inl same ↦ rw same (ap suc (count_still name x done h))
  | inr other ↦ rw other (count_still name x done h)
]

-- numbers of names that come next
abbrev NumbersNext : ℕ → Option ℕ → Type 0
NumbersNext m None = Unit {0}
NumbersNext m (Some k) = k ≡ suc m

next_numbers : (k m : ℕ) (t : Bool) → k ≡ suc m → NumbersNext (suc m) (if t then Some (k + 1) else None)
next_numbers k m true e = omega (arith, e)
next_numbers k m false e = tt

leads_respelt : (path old new : List ℕ) (m : ℕ) (o : Option ℕ) (done names : List (List ℕ)) → same_name old new ≡ true → count_those old done ≡ m → NumbersNext m o
    → Leads path (respelling path old new o names) (done ++ names) (done ++ respelt old new o names)
leads_respelt path old new m o done [] same c n = leads_nowhere path (done ++ [])
leads_respelt path old new m None done (own ∷ names) same c n = leads_nowhere path (done ++ own ∷ names)
leads_respelt path old new m (Some k) done (own ∷ names) same c n = elim (cases_Bool (same_name old own)) [
  | inl hit ↦
      let rest = leads_respelt path old new (suc m) (next_number k) (done ++ new ∷ []) names same (count_more old new done same ∙ ap suc c) (next_numbers k m (nat_lt k greatest_number) n) in
      let mid : done ++ new ∷ names ≡ (done ++ new ∷ []) ++ names = sym (append_assoc done (new ∷ []) names) in
      let end : (done ++ new ∷ []) ++ respelt old new (next_number k) names ≡ done ++ new ∷ respelt old new (next_number k) names = append_assoc done (new ∷ []) (respelt old new (next_number k) names) in
      rw hit
      (leads_to path (RenameField path old k new ∷ respelling path old new (next_number k) names) (done ++ own ∷ names) ((done ++ new ∷ []) ++ respelt old new (next_number k) names) (done ++ new ∷ respelt old new (next_number k) names) end
      (leads_on path (RenameField path old k new) (respelling path old new (next_number k) names) (done ++ own ∷ names) ((done ++ new ∷ []) ++ names) ((done ++ new ∷ []) ++ respelt old new (next_number k) names)
      (λ t u has d.
      let one = subst (λ i. edited (RenameField path old i new) t ≡ Ok u) n d in
      subst (λ (ns : List (List ℕ)). Has path ns u) (put_at old own new m done names c hit ∙ mid) (given_name path old new m (done ++ own ∷ names) t u has one))
      rest))
  | inr miss ↦
      let rest = leads_respelt path old new m (Some k) (done ++ own ∷ []) names same (count_still old own done miss ∙ c) n in
      let first : (done ++ own ∷ []) ++ names ≡ done ++ own ∷ names = append_assoc done (own ∷ []) names in
      let end : (done ++ own ∷ []) ++ respelt old new (Some k) names ≡ done ++ own ∷ respelt old new (Some k) names = append_assoc done (own ∷ []) (respelt old new (Some k) names) in
      rw miss
      (leads_to path (respelling path old new (Some k) names) (done ++ own ∷ names) ((done ++ own ∷ []) ++ respelt old new (Some k) names) (done ++ own ∷ respelt old new (Some k) names) end
      (λ t p has d. rest t p (subst (λ (ns : List (List ℕ)). Has path ns t) (sym first) has) d))
]

-- ---- fields whose names are meant

map_take : (f : ℕ → ℕ) (n : ℕ) (xs : List ℕ) → map f (take n xs) ≡ take n (map f xs)
map_take f zero xs = refl
map_take f (suc n) [] = refl
map_take f (suc n) (x ∷ xs) = ap (λ (ys : List ℕ). f x ∷ ys) (map_take f n xs)

-- names that are equal without regard to case are meant alike
meant_alike : (p : PlainPattern) (x own : List ℕ) → str_to_ascii_lowercase x ≡ str_to_ascii_lowercase own → is_meant p x ≡ is_meant p own
meant_alike p x own e = elim (cases_Bool p.is_front) [
  | inr whole ↦ rw whole (ap (λ ls. bytes_eq ls (str_to_ascii_lowercase p.text)) e)
  | inl front ↦ rw front (ap (λ ls. bytes_eq ls (str_to_ascii_lowercase p.text)) (map_take _ (length p.text) x ∙ (ap (take (length p.text)) e ∙ sym (map_take _ (length p.text) own))))
]

dropped_alike : (ps : List PlainPattern) (x own : List ℕ) → str_to_ascii_lowercase x ≡ str_to_ascii_lowercase own → is_dropped ps x ≡ is_dropped ps own
dropped_alike [] x own e = refl
dropped_alike (p ∷ ps) x own e = (λ i. meant_alike p x own e i || dropped_alike ps x own e i)

left_alike : (r : Removal) (x own : List ℕ) → str_to_ascii_lowercase x ≡ str_to_ascii_lowercase own → is_left_out r x ≡ is_left_out r own
left_alike r x own e = λ i.
    not (is_nil r.keeps)
    && (not (dropped_alike r.keeps x own e i)
    && (r.only || not (meant_alike (record { text = codes "MIME-Version"; is_front = false }) x own e i || meant_alike (record { text = codes "Content-"; is_front = true }) x own e i)))

goes_alike : (r : Removal) (x own : List ℕ) → str_to_ascii_lowercase x ≡ str_to_ascii_lowercase own → goes r x ≡ goes r own
goes_alike r x own e = λ i. dropped_alike r.drops x own e i || left_alike r x own e i

-- each as the first of its name
abbrev each_gone : List (List ℕ) → List (List ℕ) → List (List ℕ)
each_gone [] names = names
each_gone (x ∷ xs) names = each_gone xs (without_one x zero names)

leads_each : (path : List ℕ) (xs names : List (List ℕ)) → Leads path (map (λ own. RemoveField path own 1) xs) names (each_gone xs names)
leads_each path [] names = leads_nowhere path names
leads_each path (x ∷ xs) names =
    leads_on path (RemoveField path x 1) (map (λ own. RemoveField path own 1) xs) names (without_one x zero names) (each_gone xs (without_one x zero names)) (λ t u has done. removed path x zero names t u has done) (leads_each path xs (without_one x zero names))

each_other : (r : Removal) (own : List ℕ) (xs names : List (List ℕ)) → goes r own ≡ false → each_gone (filter (goes r) xs) (own ∷ names) ≡ own ∷ each_gone (filter (goes r) xs) names
each_other r own [] names h = refl
each_other r own (x ∷ xs) names h = elim (cases_Bool (goes r x)) [
  | inr miss ↦ rw miss (each_other r own xs names h)
  | inl hit ↦
      let differs : same_name x own ≡ false = apart x hit in
      let step : without_one x zero (own ∷ names) ≡ own ∷ without_one x zero names = rw differs refl in
      rw hit (ap (each_gone (filter (goes r) xs)) step ∙ each_other r own xs (without_one x zero names) h)
]
  where
    apart : (x : List ℕ) → goes r x ≡ true → same_name x own ≡ false
    apart x hit = elim (cases_Bool (same_name x own)) [
      | inr other ↦ other
      | inl same ↦
          let alike = (bytes_eq-Decides (str_to_ascii_lowercase own) (str_to_ascii_lowercase x)).0 same in
          let bad : true ≡ false = sym hit ∙ (goes_alike r x own (sym alike) ∙ h) in
          absurd (cc)
    ]

self_named : (own : List ℕ) → same_name own own ≡ true
self_named own = (bytes_eq-Decides (str_to_ascii_lowercase own) (str_to_ascii_lowercase own)).1 refl

all_dropped : (r : Removal) (names : List (List ℕ)) → each_gone (filter (goes r) names) names ≡ filter (λ own. not (goes r own)) names
all_dropped r [] = refl
all_dropped r (own ∷ names) = elim (cases_Bool (goes r own)) [
  | inl hit ↦
      let step : without_one own zero (own ∷ names) ≡ names = rw (self_named own) refl in
      rw hit (ap (each_gone (filter (goes r) names)) step ∙ all_dropped r names)
  | inr miss ↦ rw miss (each_other r own names names miss ∙ ap (λ (ns : List (List ℕ)). own ∷ ns) (all_dropped r names))
]

-- ---- letters

-- work leads from names to those that it tracks
abbrev Tracks : List ℕ → List (List ℕ) → Work → Type 0
Tracks path names w = Leads path w.edits names w.names

tracks_then : (path : List ℕ) (names : List (List ℕ)) (w : Work) (f : List (List ℕ) → Work) → Tracks path names w → ((ns : List (List ℕ)) → Tracks path ns (f ns)) → Tracks path names (then_do w f)
tracks_then path names w f a b = leads_both path w.edits (f w.names).edits names w.names (f w.names).names a (b w.names)

tracks_letter : {X : Type 0} (path : List ℕ) (names : List (List ℕ)) (f : X → List (List ℕ) → Work) (o : Option X) (w : Work) → Tracks path names w → ((x : X) (ns : List (List ℕ)) → Tracks path ns (f x ns)) → Tracks path names (letter f o w)
tracks_letter path names f None w a b = a
tracks_letter path names f (Some x) w a b = tracks_then path names w (f x) a (b x)

tracks_dropped : (path : List ℕ) (r : Removal) (names : List (List ℕ)) → Tracks path names (dropped path r names)
tracks_dropped path r names = leads_to path (dropped path r names).edits names _ _ (all_dropped r names) (leads_each path (filter (goes r) names) names)

tracks_removed : (path name : List ℕ) (names : List (List ℕ)) → Tracks path names (removed_all path name names)
tracks_removed path name names = leads_to path (removed_all path name names).edits names _ _ (all_gone name names) (leads_gone path name zero (those name names) names)

tracks_first : (path name : List ℕ) (names : List (List ℕ)) → Tracks path names (first_letter path name names)
tracks_first path name names = leads_to path (first_letter path name names).edits names _ _ (later_gone name names) (leads_gone path name 1 (drop 1 (those name names)) names)

tracks_old : (path name : List ℕ) (names : List (List ℕ)) → Tracks path names (made_old path name names)
tracks_old path name names = leads_to path (made_old path name names).edits names _ _ (all_renamed name old_name names (longer name)) (leads_renamed path name old_name (those name names) names)

tracks_renamed : (path : List ℕ) (p : List ℕ × List ℕ) (names : List (List ℕ)) → Tracks path names (rename_letter path p names)
tracks_renamed path p names = elim (cases_Bool (same_name p.0 p.1)) [
  | inl same ↦ rw same (leads_respelt path p.0 p.1 zero (Some 1) [] names same refl refl)
  | inr other ↦ rw other (leads_to path (map (λ own. RenameField path p.0 1 p.1) (those p.0 names)) names _ _ (all_renamed p.0 (λ own. p.1) names (λ own h. other)) (leads_renamed path p.0 (λ own. p.1) (those p.0 names) names))
]

-- an ending is no part of a name
name_ended : (field : List ℕ) (eol : Ending) → name_in (field ++ ending_bytes eol) ≡ name_in field
name_ended [] Crlf = refl
name_ended [] Lf = refl
name_ended [] Missing = refl
name_ended (byte ∷ bytes) eol =
    name_one byte (bytes ++ ending_bytes eol) ∙ (ap (λ (ns : List ℕ). if is_name_byte byte then byte ∷ ns else []) (name_ended bytes eol) ∙ sym (name_one byte bytes))

tracks_added : (path : List ℕ) (eol : Ending) (field : List ℕ) (names : List (List ℕ)) → Tracks path names (added path eol field names)
tracks_added path eol field names =
    let text = field ++ ending_bytes eol in
    leads_on path (AddField path false text) [] names (names ++ name_in field ∷ []) (names ++ name_in field ∷ [])
    (λ t u has done. subst (λ (own : List ℕ). Has path (names ++ own ∷ []) u) (name_ended field eol) (given_field path text names t u has done)) (leads_nowhere path (names ++ name_in field ∷ []))

tracks_added_if : (path : List ℕ) (eol : Ending) (field : List ℕ) (names : List (List ℕ)) → Tracks path names (add_if_letter path eol field names)
tracks_added_if path eol field names = elim (cases_Bool (list_any (same_name (name_in field)) names)) [
  | inl there ↦ rw there (leads_nowhere path names)
  | inr none ↦ rw none (tracks_added path eol field names)
]

tracks_full : (path : List ℕ) (eol : Ending) (field : List ℕ) (names : List (List ℕ)) → Tracks path names (added_full path eol field names)
tracks_full path eol field names = elim (cases_Bool (is_bare field)) [
  | inl bare ↦ rw bare (leads_nowhere path names)
  | inr full ↦ rw full (tracks_added path eol field names)
]

tracks_worked : (path : List ℕ) (eol : Ending) (l : PlainLetters) (names : List (List ℕ)) → Tracks path names (worked path eol l names)
tracks_worked path eol l names =
    tracks_letter path names (first_letter path) l.first _
    (tracks_letter path names (only_letter path eol) l.only _
    (tracks_letter path names (prefixed_letter path eol) l.prefixed _
    (tracks_letter path names (added path eol) l.add _
    (tracks_letter path names (add_if_letter path eol) l.add_if _
    (tracks_letter path names (rename_letter path) l.rename _ (tracks_dropped path (removal_of l) names) (tracks_renamed path)) (tracks_added_if path eol))
    (tracks_added path eol))
    (λ field ns. tracks_then path ns (made_old path (name_in field) ns) (added_full path eol field) (tracks_old path (name_in field) ns) (tracks_full path eol field)))
    (λ field ns. tracks_then path ns (removed_all path (name_in field) ns) (added_full path eol field) (tracks_removed path (name_in field) ns) (tracks_full path eol field)))
    (tracks_first path)

-- ---- the law

named_there : (path : List ℕ) (names : List (List ℕ)) (u : Document) → Has path names u → (q : Placed) × (section_at path u ≡ Some q) × (own_names q ≡ names)
named_there path names u has = (placed u.envelope has.around has.section, section_there path u ∙ ap (option_map (λ (q : List Frame × Entity). placed u.envelope q.0 q.1)) has.there, has.named)

tracked_there : (path : List ℕ) (eol : Ending) (l : PlainLetters) (t u : Document) (ss : List Splice) (p : Placed) (o : Option (List Frame × Entity)) → place_of path t.root ≡ o → option_map (λ q. placed t.envelope q.0 q.1) o ≡ Some p
    → together (worked path eol l (own_names p)).edits t ≡ Ok (u, ss) → (q : Placed) × (section_at path u ≡ Some q) × (own_names q ≡ (worked path eol l (own_names p)).names)
tracked_there path eol l t u ss p None there is done = none_some p is
tracked_there path eol l t u ss p (Some q) there is done =
    let here = placed t.envelope q.0 q.1 in
    let same : here ≡ p = some_same here p is in
    let named : names_in (field_lines q.1) ≡ own_names p = ap own_names same in
    named_there path (worked path eol l (own_names p)).names u (tracks_worked path eol l (own_names p) t (u, ss) (record { around = q.0; section = q.1; there = there; named = named }) done)

pub names_tracked : (path : List ℕ) (eol : Ending) (l : PlainLetters) (t u : Document) (splices : List Splice) (p : Placed) → section_at path t ≡ Some p → together (worked path eol l (own_names p)).edits t ≡ Ok (u, splices) → (q : Placed) × (section_at path u ≡ Some q) × (own_names q ≡ (worked path eol l (own_names p)).names)
names_tracked path eol l t u ss p there done = tracked_there path eol l t u ss p (place_of path t.root) refl (sym (section_there path t) ∙ there) done
