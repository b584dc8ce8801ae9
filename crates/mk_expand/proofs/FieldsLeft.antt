-- What `drop` and `put` leave of the fields of a name.
use Rattle.std.proofs.Common.{◌≡◌, ◌++◌, ◌&&◌, if◌then◌else◌, ℕ, zero, suc, Bool, true, false, not, Option, None, Some, Result, Ok, Err, List, [], ◌∷◌, filter, map, refl, ap, sym, ◌∙◌, subst, append-nil, bytes_eq, inl, inr}
use Rattle.std.proofs.lemmas.Bool.{cases_Bool}
use Rattle.std.proofs.lemmas.Slice.Eq.{bytes_eq-Decides}
use Rattle.std.specs.List.{list_all}
use Rattle.std.specs.Option.{option_map}
use Rattle.std.specs.Str.{str_to_ascii_lowercase}
use Rattle.mk_line.specs.Lines.{TextLine, cut}
use Rattle.mk_head.specs.Split.{belongs, fields_from, is_more, is_start}
use Rattle.mk_head.specs.Fields.{FieldText, continuations, field_text, fields_of, is_named, is_one_field, name_of, after_more}
use Rattle.mk_head.proofs.FieldRuns.{more_start}
use Rattle.mk_tree.specs.Tree.{Entity, leaf, message, multi, field_lines, with_fields}
use Rattle.mk_tree.specs.Documents.{Document}
use Rattle.mk_tree.specs.Sections.{Placed, section_at}
use Rattle.mk_tree.specs.Places.{Frame, placed}
use Rattle.mk_decide.specs.Edits.{PlainEdit, AddField, RemoveField, SetField, Refusal, BadField}
use Rattle.mk_decide.specs.FieldEdits.{Found, field_at, find, found_after, starts_named}
use Rattle.mk_decide.specs.Outcomes.{edited}
use Rattle.mk_decide.specs.Plans.{Plan, fields_plan, place_of, plan_of, planned, unless}
use Rattle.mk_decide.proofs.PlanNames.{add_plan, change_plan, drop_plan}
use Rattle.mk_decide.proofs.Accepted.{found_ok, none_some, ok_same, plan_by, some_same, there_again, unless_ok}
use Rattle.mk_decide.proofs.EveryEdit.{plan_there}
use Rattle.mk_decide.proofs.Late.{fair}
use Rattle.mk_decide.proofs.PlacesAgain.{section_there}
use Rattle.mk_decide.proofs.WrapFields.{start_more}
use Rattle.mk_expand.specs.ExpandLaws.{all_edited}
use Rattle.mk_expand.specs.FieldWords.{dropped, first_name, name_in, put, put_over, those}
use Rattle.mk_expand.proofs.EncodingsKept.{document_same, in_turn}
use Rattle.mk_expand.proofs.FirstFields.{ended, nil_cons, none_found, same_found}

-- ---- lines that begin a field of a name

and_left : (a b : Bool) → (a && b) ≡ true → a ≡ true
and_left true b h = refl
and_left false b h = h

and_right : (a b : Bool) → (a && b) ≡ true → b ≡ true
and_right true b h = h
and_right false b h = cc

and_no : (a b : Bool) → a ≡ true → (a && b) ≡ false → b ≡ false
and_no true b t h = h
and_no false b t h = cc

-- the fields of a name among lines
abbrev those_of : List ℕ → List TextLine → List FieldText
those_of name ls = filter (is_named name) (fields_of ls)

-- a line that begins such a field
one_more : (name : List ℕ) (l : TextLine) (ls : List TextLine) → starts_named name l ≡ true → those_of name (l ∷ ls) ≡ field_text l (continuations ls) ∷ those_of name ls
one_more name l ls h =
    let named : is_named name (field_text l (continuations ls)) ≡ true = and_right (is_start l) (is_named name (field_text l [])) h in
    rw (and_left (is_start l) (is_named name (field_text l [])) h, named) refl

-- and one that doesn't
no_more : (name : List ℕ) (l : TextLine) (ls : List TextLine) → starts_named name l ≡ false → those_of name (l ∷ ls) ≡ those_of name ls
no_more name l ls h = elim (cases_Bool (is_start l)) [
  | inr other ↦ rw other refl
  | inl start ↦
      let named : is_named name (field_text l (continuations ls)) ≡ false = and_no (is_start l) (is_named name (field_text l [])) start h in
      rw (start, named) refl
]

starts : (name : List ℕ) (l : TextLine) → starts_named name l ≡ true → is_more l ≡ false
starts name l h = start_more l (and_left (is_start l) (is_named name (field_text l [])) h)

more_unnamed : (name : List ℕ) (l : TextLine) → is_more l ≡ true → starts_named name l ≡ false
more_unnamed name l h = rw (more_start l h) refl

-- no field begins in continuations
past_more : (name : List ℕ) (ls : List TextLine) → those_of name (after_more ls) ≡ those_of name ls
past_more name [] = refl
past_more name (l ∷ ls) = elim (cases_Bool (is_more l)) [
  | inl more ↦ rw more (past_more name ls ∙ sym (no_more name l ls (more_unnamed name l more)))
  | inr other ↦ rw other refl
]

-- ---- without one of the fields

-- the k-th of some, counted from 0, is gone
abbrev without_at : ℕ → List FieldText → List FieldText
without_at k [] = []
without_at zero (x ∷ xs) = xs
without_at (suc k) (x ∷ xs) = x ∷ without_at k xs

same_after : (l : TextLine) (o : Option Found) (f : Found) (ls : List TextLine) → ((g : Found) → o ≡ Some g → continuations (g.before ++ g.after) ≡ continuations ls) → found_after l o ≡ Some f
    → continuations (f.before ++ f.after) ≡ continuations (l ∷ ls)
same_after l None f ls rest e = none_found f e
same_after l (Some g) f ls rest e =
    let now : Found = record { before = l ∷ g.before; start = g.start; more = g.more; after = g.after } in
    subst (λ (x : Found). continuations (x.before ++ x.after) ≡ continuations (l ∷ ls)) (same_found now f e) (ap (λ xs. if is_more l then l ∷ xs else []) (rest g refl))

-- what continues the line before them stays
same_more : (name : List ℕ) (k : ℕ) (ls : List TextLine) (f : Found) → find (starts_named name) k ls ≡ Some f → continuations (f.before ++ f.after) ≡ continuations ls
same_more name k [] f e = none_found f e
same_more name zero (l ∷ ls) f e = elim (cases_Bool (starts_named name l)) [
  | inl named ↦
      let now : Found = record { before = []; start = l; more = continuations ls; after = after_more ls } in
      let none : continuations (l ∷ ls) ≡ [] = rw (starts name l named) refl in
      subst (λ (x : Found). continuations (x.before ++ x.after) ≡ continuations (l ∷ ls)) (same_found now f (rw named at e)) (ended ls ∙ sym none)
  | inr other ↦ same_after l (find (starts_named name) zero ls) f ls (λ g. same_more name zero ls g) (rw other at e)
]
same_more name (suc k) (l ∷ ls) f e = elim (cases_Bool (starts_named name l)) [
  | inl named ↦ same_after l (find (starts_named name) k ls) f ls (λ g. same_more name k ls g) (rw named at e)
  | inr other ↦ same_after l (find (starts_named name) (suc k) ls) f ls (λ g. same_more name (suc k) ls g) (rw other at e)
]

gone_after : (name : List ℕ) (k : ℕ) (l : TextLine) (o : Option Found) (f : Found) (ls : List TextLine) → starts_named name l ≡ false → ((g : Found) → o ≡ Some g → those_of name (g.before ++ g.after) ≡ without_at k (those_of name ls))
    → found_after l o ≡ Some f → those_of name (f.before ++ f.after) ≡ without_at k (those_of name (l ∷ ls))
gone_after name k l None f ls other rest e = none_found f e
gone_after name k l (Some g) f ls other rest e =
    let now : Found = record { before = l ∷ g.before; start = g.start; more = g.more; after = g.after } in
    subst (λ (x : Found). those_of name (x.before ++ x.after) ≡ without_at k (those_of name (l ∷ ls))) (same_found now f e)
    (no_more name l (g.before ++ g.after) other ∙ (rest g refl ∙ ap (without_at k) (sym (no_more name l ls other))))

gone_later : (name : List ℕ) (k : ℕ) (l : TextLine) (o : Option Found) (f : Found) (ls : List TextLine) → starts_named name l ≡ true → ((g : Found) → o ≡ Some g → those_of name (g.before ++ g.after) ≡ without_at k (those_of name ls))
    → ((g : Found) → o ≡ Some g → continuations (g.before ++ g.after) ≡ continuations ls) → found_after l o ≡ Some f → those_of name (f.before ++ f.after) ≡ without_at (suc k) (those_of name (l ∷ ls))
gone_later name k l None f ls named rest same e = none_found f e
gone_later name k l (Some g) f ls named rest same e =
    let now : Found = record { before = l ∷ g.before; start = g.start; more = g.more; after = g.after } in
    subst (λ (x : Found). those_of name (x.before ++ x.after) ≡ without_at (suc k) (those_of name (l ∷ ls))) (same_found now f e)
    (one_more name l (g.before ++ g.after) named
    ∙ (ap (λ more. field_text l more ∷ those_of name (g.before ++ g.after)) (same g refl)
    ∙ (ap (λ xs. field_text l (continuations ls) ∷ xs) (rest g refl) ∙ ap (without_at (suc k)) (sym (one_more name l ls named)))))

-- without the k-th field of a name, counted from 0, all others of it are left
gone : (name : List ℕ) (k : ℕ) (ls : List TextLine) (f : Found) → find (starts_named name) k ls ≡ Some f → those_of name (f.before ++ f.after) ≡ without_at k (those_of name ls)
gone name k [] f e = none_found f e
gone name zero (l ∷ ls) f e = elim (cases_Bool (starts_named name l)) [
  | inl named ↦
      let now : Found = record { before = []; start = l; more = continuations ls; after = after_more ls } in
      subst (λ (x : Found). those_of name (x.before ++ x.after) ≡ without_at zero (those_of name (l ∷ ls))) (same_found now f (rw named at e))
      (past_more name ls ∙ ap (without_at zero) (sym (one_more name l ls named)))
  | inr other ↦ gone_after name zero l (find (starts_named name) zero ls) f ls other (λ g. gone name zero ls g) (rw other at e)
]
gone name (suc k) (l ∷ ls) f e = elim (cases_Bool (starts_named name l)) [
  | inl named ↦ gone_later name k l (find (starts_named name) k ls) f ls named (λ g. gone name k ls g) (λ g. same_more name k ls g) (rw named at e)
  | inr other ↦ gone_after name (suc k) l (find (starts_named name) (suc k) ls) f ls other (λ g. gone name (suc k) ls g) (rw other at e)
]

-- ---- a field that is given

given_more : (more rest : List TextLine) → list_all is_more more ≡ true → continuations rest ≡ [] → continuations (more ++ rest) ≡ more
given_more [] rest a c = c
given_more (l ∷ ls) rest a c = rw (and_left (is_more l) (list_all is_more ls) a) (ap (λ xs. l ∷ xs) (given_more ls rest (and_right (is_more l) (list_all is_more ls) a) c))

given_none : (name : List ℕ) (more rest : List TextLine) → list_all is_more more ≡ true → those_of name (more ++ rest) ≡ those_of name rest
given_none name [] rest a = refl
given_none name (l ∷ ls) rest a =
    no_more name l (ls ++ rest) (more_unnamed name l (and_left (is_more l) (list_all is_more ls) a)) ∙ given_none name ls rest (and_right (is_more l) (list_all is_more ls) a)

-- a field before lines of which the first doesn't continue it
given_is : (name : List ℕ) (l : TextLine) (more rest : List TextLine) → starts_named name l ≡ true → list_all is_more more ≡ true → continuations rest ≡ [] → those_of name ((l ∷ more) ++ rest) ≡ field_text l more ∷ those_of name rest
given_is name l more rest named a c =
    one_more name l (more ++ rest) named ∙ (ap (λ xs. field_text l xs ∷ those_of name (more ++ rest)) (given_more more rest a c) ∙ ap (λ xs. field_text l more ∷ xs) (given_none name more rest a))

-- after others, none of which has the name
given_last : (name : List ℕ) (l : TextLine) (more ls : List TextLine) → starts_named name l ≡ true → list_all is_more more ≡ true → those_of name ls ≡ [] → those_of name (ls ++ (l ∷ more)) ≡ field_text l more ∷ []
given_last name l more [] named a none = ap (those_of name) (sym (append-nil (l ∷ more))) ∙ given_is name l more [] named a refl
given_last name l more (m ∷ ms) named a none = elim (cases_Bool (starts_named name m)) [
  | inl is ↦ nil_cons (field_text m (continuations ms)) (those_of name ms) (sym (one_more name m ms is) ∙ none)
  | inr other ↦ no_more name m (ms ++ (l ∷ more)) other ∙ given_last name l more ms named a (sym (no_more name m ms other) ∙ none)
]

put_after : (name : List ℕ) (given : List TextLine) (x : FieldText) (m : TextLine) (o : Option Found) (f : Found) (ls : List TextLine) → starts_named name m ≡ false
    → ((g : Found) → o ≡ Some g → those_of name (g.before ++ (given ++ g.after)) ≡ x ∷ without_at zero (those_of name ls)) → found_after m o ≡ Some f → those_of name (f.before ++ (given ++ f.after)) ≡ x ∷ without_at zero (those_of name (m ∷ ls))
put_after name given x m None f ls other rest e = none_found f e
put_after name given x m (Some g) f ls other rest e =
    let now : Found = record { before = m ∷ g.before; start = g.start; more = g.more; after = g.after } in
    subst (λ (y : Found). those_of name (y.before ++ (given ++ y.after)) ≡ x ∷ without_at zero (those_of name (m ∷ ls))) (same_found now f e)
    (no_more name m (g.before ++ (given ++ g.after)) other ∙ (rest g refl ∙ ap (λ xs. x ∷ without_at zero xs) (sym (no_more name m ls other))))

-- in the place of the first of the name
given_first : (name : List ℕ) (l : TextLine) (more ls : List TextLine) (f : Found) → starts_named name l ≡ true → list_all is_more more ≡ true → find (starts_named name) zero ls ≡ Some f
    → those_of name (f.before ++ ((l ∷ more) ++ f.after)) ≡ field_text l more ∷ without_at zero (those_of name ls)
given_first name l more [] f named a e = none_found f e
given_first name l more (m ∷ ms) f named a e = elim (cases_Bool (starts_named name m)) [
  | inl is ↦
      let now : Found = record { before = []; start = m; more = continuations ms; after = after_more ms } in
      subst (λ (x : Found). those_of name (x.before ++ ((l ∷ more) ++ x.after)) ≡ field_text l more ∷ without_at zero (those_of name (m ∷ ms))) (same_found now f (rw is at e))
      (given_is name l more (after_more ms) named a (ended ms)
      ∙ ap (λ xs. field_text l more ∷ xs) (past_more name ms ∙ ap (without_at zero) (sym (one_more name m ms is))))
  | inr other ↦ put_after name (l ∷ more) (field_text l more) m (find (starts_named name) zero ms) f ms other (λ g. given_first name l more ms g named a) (rw other at e)
]

-- ---- documents

-- the section at a path has these fields of a name
record Has (path name : List ℕ) (found : List FieldText) (t : Document) : Type 0 where
  around : List Frame
  section : Entity
  there : place_of path t.root ≡ Some (around, section)
  fields : those_of name (field_lines section) ≡ found

fields_now : (fields : List TextLine) (s : Entity) → field_lines (with_fields fields s) ≡ fields
fields_now fields (leaf h ls) = refl
fields_now fields (message h e) = refl
fields_now fields (multi h b pre ps t) = refl

-- with other fields
moved : (path name : List ℕ) (found : List FieldText) (new given : List TextLine) (t u : Document) (fs : List Frame) (s : Entity) → place_of path t.root ≡ Some (fs, s) → u ≡ planned t.envelope (fields_plan fs s new given) → those_of name new ≡ found
    → Has path name found u
moved path name found new given t u fs s at gives is = record {
  around = fs;
  section = with_fields new s;
  there = ap (λ (d : Document). place_of path d.root) gives ∙ there_again path t.root fs s (with_fields new s) at;
  fields = ap (those_of name) (fields_now new s) ∙ is;
}

-- the k-th field of the name goes
removed : (path name : List ℕ) (k : ℕ) (found : List FieldText) (t u : Document) → Has path name found t → edited (RemoveField path name (suc k)) t ≡ Ok u → Has path name (without_at k found) u
removed path name k found t u has done =
    let s = has.section in
    let e = RemoveField path name (suc k) in
    let plan = plan_by t u e (plan_of e t) refl (fair e t) done in
    let f = found_ok (field_at name (suc k) (field_lines s)) (λ f. Ok (drop_plan has.around s f)) plan.plan (plan_there e t has.around s plan.plan has.there plan.is) in
    moved path name (without_at k found) (f.0.before ++ f.0.after) [] t u has.around s has.there (plan.gives ∙ ap (planned t.envelope) (sym (ok_same (drop_plan has.around s f.0) plan.plan f.2)))
    (gone name k (field_lines s) f.0 f.1 ∙ ap (without_at k) has.fields)

-- a field is put in the place of the first
set : (path name text : List ℕ) (l : TextLine) (more : List TextLine) (found : List FieldText) (t u : Document) → cut text ≡ l ∷ more → starts_named name l ≡ true → list_all is_more more ≡ true → Has path name found t
    → edited (SetField path name 1 text) t ≡ Ok u → Has path name (field_text l more ∷ without_at zero found) u
set path name text l more found t u line named a has done =
    let s = has.section in
    let e = SetField path name 1 text in
    let plan = plan_by t u e (plan_of e t) refl (fair e t) done in
    let f = found_ok (field_at name 1 (field_lines s)) (λ f. unless (not (is_one_field (cut text))) BadField (Ok (change_plan has.around s (cut text) f))) plan.plan (plan_there e t has.around s plan.plan has.there plan.is) in
    let is : change_plan has.around s (cut text) f.0 ≡ plan.plan = unless_ok (not (is_one_field (cut text))) BadField (change_plan has.around s (cut text) f.0) plan.plan f.2 in
    moved path name (field_text l more ∷ without_at zero found) (f.0.before ++ ((l ∷ more) ++ f.0.after)) (l ∷ more) t u has.around s has.there
    (plan.gives ∙ ap (planned t.envelope) (sym is ∙ ap (λ given. fields_plan has.around s (f.0.before ++ (given ++ f.0.after)) given) line))
    (given_first name l more (field_lines s) f.0 named a f.1 ∙ ap (λ xs. field_text l more ∷ without_at zero xs) has.fields)

-- a field is added where there is none
added_one : (path name text : List ℕ) (l : TextLine) (more : List TextLine) (t u : Document) → cut text ≡ l ∷ more → starts_named name l ≡ true → list_all is_more more ≡ true → Has path name [] t → edited (AddField path false text) t ≡ Ok u
    → Has path name (field_text l more ∷ []) u
added_one path name text l more t u line named a has done =
    let s = has.section in
    let e = AddField path false text in
    let plan = plan_by t u e (plan_of e t) refl (fair e t) done in
    let is : add_plan has.around s false (cut text) ≡ plan.plan = unless_ok (not (is_one_field (cut text))) BadField (add_plan has.around s false (cut text)) plan.plan (plan_there e t has.around s plan.plan has.there plan.is) in
    moved path name (field_text l more ∷ []) (field_lines s ++ (l ∷ more)) (l ∷ more) t u has.around s has.there
    (plan.gives ∙ ap (planned t.envelope) (sym is ∙ ap (λ given. fields_plan has.around s (field_lines s ++ given) given) line))
    (given_last name l more (field_lines s) named a has.fields)

-- the first goes, as often as there is one
all_removed : (path name : List ℕ) (found : List FieldText) (t u : Document) → Has path name found t → all_edited (map (λ f. RemoveField path name 1) found) t ≡ Ok u → Has path name [] u
all_removed path name [] t u has done = subst (Has path name []) (document_same t u done) has
all_removed path name (x ∷ xs) t u has done =
    let made = in_turn (all_edited (map (λ f. RemoveField path name 1) xs)) (edited (RemoveField path name 1) t) u done in
    all_removed path name xs made.0 u (removed path name zero (x ∷ xs) t made.0 has made.1) made.2

-- the second goes, as often as there is one
others_removed : (path name : List ℕ) (x : FieldText) (others : List FieldText) (t u : Document) → Has path name (x ∷ others) t → all_edited (map (λ f. RemoveField path name 2) others) t ≡ Ok u → Has path name (x ∷ []) u
others_removed path name x [] t u has done = subst (Has path name (x ∷ [])) (document_same t u done) has
others_removed path name x (y ∷ ys) t u has done =
    let made = in_turn (all_edited (map (λ f. RemoveField path name 2) ys)) (edited (RemoveField path name 2) t) u done in
    others_removed path name x ys made.0 u (removed path name 1 (x ∷ (y ∷ ys)) t made.0 has made.1) made.2

put_one : (path name text : List ℕ) (l : TextLine) (more : List TextLine) (found : List FieldText) (t u : Document) → cut text ≡ l ∷ more → starts_named name l ≡ true → list_all is_more more ≡ true → Has path name found t
    → all_edited (put_over path name text found) t ≡ Ok u → Has path name (field_text l more ∷ []) u
put_one path name text l more [] t u line named a has done =
    let made = in_turn (all_edited []) (edited (AddField path false text) t) u done in
    subst (Has path name (field_text l more ∷ [])) (document_same made.0 u made.2) (added_one path name text l more t made.0 line named a has made.1)
put_one path name text l more (x ∷ others) t u line named a has done =
    let made = in_turn (all_edited (map (λ f. RemoveField path name 2) others)) (edited (SetField path name 1 text) t) u done in
    others_removed path name (field_text l more) others made.0 u (set path name text l more (x ∷ others) t made.0 line named a has made.1) made.2

-- ---- the laws

-- the section that stands there then
left_at : (path name : List ℕ) (found : List FieldText) (u : Document) → Has path name found u → (q : Placed) × (section_at path u ≡ Some q) × (those name q ≡ found)
left_at path name found u has = (placed u.envelope has.around has.section, section_there path u ∙ ap (option_map (λ (q : List Frame × Entity). placed u.envelope q.0 q.1)) has.there, has.fields)

drops_there : (path name : List ℕ) (t u : Document) (p : Placed) (o : Option (List Frame × Entity)) → place_of path t.root ≡ o → option_map (λ q. placed t.envelope q.0 q.1) o ≡ Some p → all_edited (dropped path name (Some p)) t ≡ Ok u
    → (q : Placed) × (section_at path u ≡ Some q) × (those name q ≡ [])
drops_there path name t u p None there is done = none_some p is
drops_there path name t u p (Some q) there is done =
    let same : placed t.envelope q.0 q.1 ≡ p = some_same (placed t.envelope q.0 q.1) p is in
    left_at path name [] u (all_removed path name (those name (placed t.envelope q.0 q.1)) t u (record { around = q.0; section = q.1; there = there; fields = refl }) (ap (λ x. all_edited (dropped path name (Some x)) t) same ∙ done))

pub drops_left : (path name : List ℕ) (t u : Document) (p : Placed) → section_at path t ≡ Some p → all_edited (dropped path name (Some p)) t ≡ Ok u → (q : Placed) × (section_at path u ≡ Some q) × (those name q ≡ [])
drops_left path name t u p there done = drops_there path name t u p (place_of path t.root) refl (sym (section_there path t) ∙ there) done

-- a field is named as it is
own_name : (l : TextLine) → is_start l ≡ true → starts_named (name_of l) l ≡ true
own_name l start =
    let lower = str_to_ascii_lowercase (name_of l) in
    let same : bytes_eq lower lower ≡ true = (bytes_eq-Decides lower lower).1 refl in
    rw (start, same) refl

first_is : (l : TextLine) (more : List TextLine) → is_start l ≡ true → first_name (fields_of (fields_from false (l ∷ more))) ≡ name_of l
first_is l more start = rw (start, start) refl

puts_there : (path text : List ℕ) (t u : Document) (p : Placed) (lines : List TextLine) (o : Option (List Frame × Entity)) → cut text ≡ lines → is_one_field lines ≡ true → place_of path t.root ≡ o → option_map (λ q. placed t.envelope q.0 q.1) o ≡ Some p
    → all_edited (put path text (Some p)) t ≡ Ok u → (q : Placed) × (section_at path u ≡ Some q) × (those (name_in text) q ≡ fields_of lines)
puts_there path text t u p [] o line one there is done = cc
puts_there path text t u p (l ∷ more) None line one there is done = none_some p is
puts_there path text t u p (l ∷ more) (Some q) line one there is done =
    let start = and_left (is_start l) (list_all is_more more) one in
    let a = and_right (is_start l) (list_all is_more more) one in
    let name : name_in text ≡ name_of l = ap (λ ls. first_name (fields_of (fields_from false ls))) line ∙ first_is l more start in
    let named : starts_named (name_in text) l ≡ true = ap (λ n. starts_named n l) name ∙ own_name l start in
    let here = placed t.envelope q.0 q.1 in
    let same : here ≡ p = some_same here p is in
    let whole : is_one_field (cut text) ≡ true = ap is_one_field line ∙ one in
    let over : put_over path (name_in text) text (those (name_in text) here) ≡ put path text (Some here) = sym (ap (λ b. if b then put_over path (name_in text) text (those (name_in text) here) else AddField path false text ∷ []) whole) in
    let one_left : fields_of (l ∷ more) ≡ field_text l more ∷ [] = only l more start a in
    let left = left_at path (name_in text) (field_text l more ∷ []) u
    (put_one path (name_in text) text l more (those (name_in text) here) t u line named a (record { around = q.0; section = q.1; there = there; fields = refl })
    (ap (λ es. all_edited es t) over ∙ (ap (λ x. all_edited (put path text (Some x)) t) same ∙ done))) in
    (left.0, left.1, left.2 ∙ sym one_left)
  where
    none : (ls : List TextLine) → list_all is_more ls ≡ true → fields_of ls ≡ []
    none [] h = refl
    none (m ∷ ms) h = rw (more_start m (and_left (is_more m) (list_all is_more ms) h)) (none ms (and_right (is_more m) (list_all is_more ms) h))

    only : (l : TextLine) (more : List TextLine) → is_start l ≡ true → list_all is_more more ≡ true → fields_of (l ∷ more) ≡ field_text l more ∷ []
    only l more start a = rw start (ap (λ xs. field_text l xs ∷ fields_of more) (ap continuations (sym (append-nil more)) ∙ given_more more [] a refl) ∙ ap (λ xs. field_text l more ∷ xs) (none more a))

pub puts_left : (path text : List ℕ) (t u : Document) (p : Placed) → section_at path t ≡ Some p → is_one_field (cut text) ≡ true → all_edited (put path text (Some p)) t ≡ Ok u → (q : Placed) × (section_at path u ≡ Some q) × (those (name_in text) q ≡ fields_of (cut text))
puts_left path text t u p there one done = puts_there path text t u p (cut text) (place_of path t.root) refl one refl (sym (section_there path t) ∙ there) done
