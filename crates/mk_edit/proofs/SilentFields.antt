-- Where a field that says nothing of the body comes, goes, is set or gets another such name, the kind that the fields say stays.
use Rattle.std.proofs.Common.{◌≡◌, ◌&&◌, ◌++◌, append-nil, if◌then◌else◌, ℕ, zero, suc, Bool, true, false, not, Option, None, Some, Result, Ok, Err, List, [], ◌∷◌, refl, ap, sym, ◌∙◌, subst, codes, Bor, IfSome, inl, inr}
use Rattle.std.proofs.lemmas.Bool.{cases_Bool}
use Rattle.std.proofs.lemmas.Slice.Eq.{bytes_eq-Decides}
use Rattle.std.specs.Str.{bytes_eq, str_to_ascii_lowercase}
use Rattle.mk_line.specs.Lines.{TextLine, cut}
use Rattle.mk_head.specs.Split.{is_start, is_more}
use Rattle.std.specs.List.{list_all}
use Rattle.mk_head.specs.Fields.{continuations, field_text, is_named, is_one_field, name_of, after_more}
use Rattle.mk_head.specs.Types.{field_value, type_by}
use Rattle.std.specs.Option.{option_map_or}
use Rattle.mk_head.specs.Unfolding.{value_in}
use Rattle.mk_head.proofs.FieldRuns.{more_start}
use Rattle.mk_tree.specs.Kinds.{kind, kind_of}
use Rattle.mk_decide.specs.declared.field_edits.FieldEdit.{FieldEdit}
use Rattle.mk_decide.specs.declared.field_edits.FieldEdit.TheVariants.{Add, Remove, Rename, Set}
use Rattle.mk_decide.specs.Edits.{Refusal, BadField, BadName}
use Rattle.mk_line.specs.Kinds.{is_name}
use Rattle.mk_decide.specs.FieldEdits.{starts_named, Found, found_after, find, field_at, renamed}
use Rattle.mk_decide.specs.FieldPuts.{LinePut, add_put, name_put, puts, set_put}
use Rattle.mk_edit.proofs.PutNames.{removes, renames, sets}
use Rattle.mk_decide.proofs.PlanNames.{put_unless}
use Rattle.mk_edit.specs.declared.silent_edits.SilentEdit.{SilentEdit}
use Rattle.mk_edit.specs.HeaderEdits.{are_same, is_silent}
use Rattle.mk_edit.specs.SilentEdits.{by_option, numbered, IsSilent}
use Rattle.mk_decide.proofs.Counting.{names_lem}
use Rattle.mk_decide.proofs.PutPlans.{lines_put}
use Rattle.mk_decide.proofs.Renaming.{both, renamed_start}
use Rattle.mk_decide.proofs.Runs.{more_after}
use Rattle.mk_decide.proofs.WrapFields.{start_more}
use Rattle.mk_head.specs.Encodings.{encoding_of}
use Rattle.mk_head.specs.declared.encodings.Encoding.TheVariants.{Identity}

-- lines of which the first continues no field stand after others
continued : (xs ys zs : List TextLine) → continuations ys ≡ [] → continuations zs ≡ [] → continuations (xs ++ ys) ≡ continuations (xs ++ zs)
continued [] ys zs h k = h ∙ sym k
continued (x ∷ xs) ys zs h k = ap (λ ls. if is_more x then x ∷ ls else []) (continued xs ys zs h k)

value_after_others : (name : List ℕ) (xs ys zs : List TextLine) → continuations ys ≡ [] → continuations zs ≡ [] → field_value name ys ≡ field_value name zs → field_value name (xs ++ ys) ≡ field_value name (xs ++ zs)
value_after_others name [] ys zs h k e = e
value_after_others name (x ∷ xs) ys zs h k e =
    let named = is_start x && is_named name (field_text x []) in
    ap (λ ls. if named then Some (value_in (x ∷ ls)) else field_value name (xs ++ ys)) (continued xs ys zs h k)
    ∙ ap (λ v. if named then Some (value_in (x ∷ continuations (xs ++ zs))) else v) (value_after_others name xs ys zs h k e)

-- continuations hold no field
value_left : (name : List ℕ) (ls : List TextLine) → field_value name (after_more ls) ≡ field_value name ls
value_left name [] = refl
value_left name (l ∷ ls) =
    elim (cases_Bool (is_more l)) [
      | inl m ↦ rw (m, more_start l m) (value_left name ls)
      | inr m ↦ rw m refl
    ]

none_left : (ls : List TextLine) → continuations (after_more ls) ≡ []
none_left [] = refl
none_left (l ∷ ls) =
    elim (cases_Bool (is_more l)) [
      | inl m ↦ rw m (none_left ls)
      | inr m ↦ rw (m, m) refl
    ]

none_before : (l : TextLine) (ls : List TextLine) → is_start l ≡ true → continuations (l ∷ ls) ≡ []
none_before l ls s = rw (start_more l s) refl

-- a field that was found by its name
pub record IsNamedIn (name : List ℕ) (ls : List TextLine) (f : Found) : Type 0 where
  pub rest : List TextLine
  pub whole : f.before ++ (f.start ∷ rest) ≡ ls
  pub apart : f.more ++ f.after ≡ rest
  pub after : f.after ≡ after_more rest
  pub named : starts_named name f.start ≡ true

abbrev NamedIn : List ℕ → List TextLine → Option Found → Type 0
NamedIn name ls None = Unit {0}
NamedIn name ls (Some f) = IsNamedIn name ls f

later : (name : List ℕ) (l : TextLine) (ls : List TextLine) (o : Option Found) → NamedIn name ls o → NamedIn name (l ∷ ls) (found_after l o)
later name l ls None h = tt
later name l ls (Some f) h = record { rest = h.rest; whole = ap (λ xs. l ∷ xs) h.whole; apart = h.apart; after = h.after; named = h.named }

here : (name : List ℕ) (t : Bool) (l : TextLine) (ls : List TextLine) (o : Option Found) → (t ≡ true → starts_named name l ≡ true) → NamedIn name ls o
    → NamedIn name (l ∷ ls) (if t then Some (record { before = []; start = l; more = continuations ls; after = after_more ls }) else found_after l o)
here name true l ls o s h = record { rest = ls; whole = refl; apart = more_after ls; after = refl; named = s refl }
here name false l ls o s h = later name l ls o h

named_in : (name : List ℕ) (k : ℕ) (ls : List TextLine) → NamedIn name ls (find (starts_named name) k ls)
named_in name k [] = tt
named_in name zero (l ∷ ls) = here name (starts_named name l) l ls (find (starts_named name) zero ls) (λ h. h) (named_in name zero ls)
named_in name (suc k) (l ∷ ls) = later name l ls (find (starts_named name) (if starts_named name l then k else suc k) ls) (named_in name (if starts_named name l then k else suc k) ls)

found_named : (name : List ℕ) (k : ℕ) (ls : List TextLine) → NamedIn name ls (field_at name k ls)
found_named name zero ls = tt
found_named name (suc k) ls = named_in name k ls

-- its name isn't another
other_name : (spelt name other : List ℕ) → are_same spelt name ≡ true → are_same name other ≡ false → are_same spelt other ≡ false
other_name spelt name other h k = ap (λ x. bytes_eq x (str_to_ascii_lowercase other)) ((bytes_eq-Decides (str_to_ascii_lowercase spelt) (str_to_ascii_lowercase name)).0 h) ∙ k

none_named : (s t : Bool) → t ≡ false → (s && t) ≡ false
none_named true t h = h
none_named false t h = refl

starts_other : (name other : List ℕ) (l : TextLine) → starts_named name l ≡ true → are_same name other ≡ false → starts_named other l ≡ false
starts_other name other l h k = none_named (is_start l) (is_named other (field_text l [])) (other_name (name_of l) name other (both (is_start l) (is_named name (field_text l [])) h).1 k)

passed_over : (other : List ℕ) (l : TextLine) (ls : List TextLine) → starts_named other l ≡ false → field_value other (l ∷ ls) ≡ field_value other ls
passed_over other l ls h = rw h refl

-- the field goes
value_without : (name other : List ℕ) (ls : List TextLine) (f : Found) → IsNamedIn name ls f → are_same name other ≡ false → field_value other (f.before ++ f.after) ≡ field_value other ls
value_without name other ls f h k =
    let start = (both (is_start f.start) (is_named name (field_text f.start [])) h.named).0 in
    value_after_others other f.before f.after (f.start ∷ h.rest) (ap continuations h.after ∙ none_left h.rest) (none_before f.start h.rest start)
    (ap (field_value other) h.after ∙ (value_left other h.rest ∙ sym (passed_over other f.start h.rest (starts_other name other f.start h.named k))))
    ∙ ap (field_value other) h.whole

-- the field gets another name
value_renamed : (name to other : List ℕ) (ls : List TextLine) (f : Found) → IsNamedIn name ls f → is_name to ≡ true → are_same name other ≡ false → are_same to other ≡ false
    → field_value other (f.before ++ (renamed to f.start ∷ (f.more ++ f.after))) ≡ field_value other ls
value_renamed name to other ls f h n k e =
    let start = (both (is_start f.start) (is_named name (field_text f.start [])) h.named).0 in
    let new = renamed to f.start in
    let spelt : name_of new ≡ to = (names_lem to f.start n start).0 in
    let passed : starts_named other new ≡ false = none_named (is_start new) (is_named other (field_text new [])) (ap (λ x. are_same x other) spelt ∙ e) in
    ap (λ xs. field_value other (f.before ++ (new ∷ xs))) h.apart
    ∙ (value_after_others other f.before (new ∷ h.rest) (f.start ∷ h.rest) (none_before new h.rest (renamed_start to f.start n start)) (none_before f.start h.rest start)
    (passed_over other new h.rest passed ∙ sym (passed_over other f.start h.rest (starts_other name other f.start h.named k)))
    ∙ ap (field_value other) h.whole)

-- the name of a field that is given
abbrev pub first_name : List TextLine → List ℕ
first_name [] = []
first_name (l ∷ ls) = name_of l

value_continued : (name : List ℕ) (ms zs : List TextLine) → list_all is_more ms ≡ true → field_value name (ms ++ zs) ≡ field_value name zs
value_continued name [] zs h = refl
value_continued name (m ∷ ms) zs h = let p = both (is_more m) (list_all is_more ms) h in rw (more_start m p.0) (value_continued name ms zs p.1)

value_given : (other : List ℕ) (given zs : List TextLine) → is_one_field given ≡ true → are_same (first_name given) other ≡ false → field_value other (given ++ zs) ≡ field_value other zs
value_given other [] zs h n = cc
value_given other (l ∷ ls) zs h n =
    passed_over other l (ls ++ zs) (none_named (is_start l) (is_named other (field_text l [])) n) ∙ value_continued other ls zs (both (is_start l) (list_all is_more ls) h).1

none_given : (given zs : List TextLine) → is_one_field given ≡ true → continuations (given ++ zs) ≡ []
none_given [] zs h = cc
none_given (l ∷ ls) zs h = none_before l (ls ++ zs) (both (is_start l) (list_all is_more ls) h).0

-- it comes
value_added : (top : Bool) (other : List ℕ) (given fields : List TextLine) → is_one_field given ≡ true → are_same (first_name given) other ≡ false → field_value other (lines_put (add_put top given fields)) ≡ field_value other fields
value_added true other given fields h n = value_given other given fields h n
value_added false other given fields h n = value_after_others other fields (given ++ []) [] (none_given given [] h) refl (value_given other given [] h n) ∙ ap (field_value other) (append-nil fields)

-- it takes the place of a field
value_set : (name other : List ℕ) (given ls : List TextLine) (f : Found) → IsNamedIn name ls f → is_one_field given ≡ true → are_same name other ≡ false → are_same (first_name given) other ≡ false → field_value other (f.before ++ (given ++ f.after)) ≡ field_value other ls
value_set name other given ls f h g k n =
    let start = (both (is_start f.start) (is_named name (field_text f.start [])) h.named).0 in
    value_after_others other f.before (given ++ f.after) (f.start ∷ h.rest) (none_given given f.after g) (none_before f.start h.rest start)
    (value_given other given f.after g n ∙ (ap (field_value other) h.after ∙ (value_left other h.rest ∙ sym (passed_over other f.start h.rest (starts_other name other f.start h.named k)))))
    ∙ ap (field_value other) h.whole

-- the kind that fields say
kind_same : (xs ys : List TextLine) (digest : Bool) → field_value (codes "Content-Type") xs ≡ field_value (codes "Content-Type") ys → field_value (codes "Content-Transfer-Encoding") xs ≡ field_value (codes "Content-Transfer-Encoding") ys → kind xs digest ≡ kind ys digest
unfolding kind
kind_same xs ys digest t e =
    ap (λ v. kind_of (type_by digest v) (option_map_or encoding_of (field_value (codes "Content-Transfer-Encoding") xs) Identity)) t
    ∙ ap (λ v. kind_of (type_by digest (field_value (codes "Content-Type") ys)) (option_map_or encoding_of v Identity)) e

not_true : (a : Bool) → not a ≡ true → a ≡ false
not_true true h = cc
not_true false h = refl

pub not_false : (a : Bool) → not a ≡ false → a ≡ true
not_false true h = refl
not_false false h = cc

silent : (name : List ℕ) → is_silent name ≡ true → (are_same name (codes "Content-Type") ≡ false) × (are_same name (codes "Content-Transfer-Encoding") ≡ false)
silent name h =
    let p = both (not (are_same name (codes "Content-Type"))) (not (are_same name (codes "Content-Transfer-Encoding"))) h in
    (not_true (are_same name (codes "Content-Type")) p.0, not_true (are_same name (codes "Content-Transfer-Encoding")) p.1)

-- what an edit puts says the same kind
abbrev SaysKind : Bool → List TextLine → Result LinePut Refusal → Type 0
SaysKind digest fields (Ok q) = kind (lines_put q) digest ≡ kind fields digest
SaysKind digest fields (Err e) = Unit {0}

removal_says : (name : List ℕ) (digest : Bool) (fields : List TextLine) (o : Option Found) → is_silent name ≡ true → NamedIn name fields o → SaysKind digest fields (removes o)
removal_says name digest fields None s h = tt
removal_says name digest fields (Some f) s h =
    let other = silent name s in
    kind_same (f.before ++ f.after) fields digest (value_without name (codes "Content-Type") fields f h other.0) (value_without name (codes "Content-Transfer-Encoding") fields f h other.1)

renamed_says : (name to : List ℕ) (digest : Bool) (fields : List TextLine) (f : Found) → is_silent name ≡ true → is_silent to ≡ true → IsNamedIn name fields f → (bad : Bool) → not (is_name to) ≡ bad → SaysKind digest fields (put_unless bad BadName (name_put to f))
renamed_says name to digest fields f s r h true e = tt
renamed_says name to digest fields f s r h false e =
    let old = silent name s in
    let new = silent to r in
    let good : is_name to ≡ true = not_false (is_name to) e in
    kind_same (f.before ++ (renamed to f.start ∷ (f.more ++ f.after))) fields digest (value_renamed name to (codes "Content-Type") fields f h good old.0 new.0) (value_renamed name to (codes "Content-Transfer-Encoding") fields f h good old.1 new.1)

renaming_says : (name to : List ℕ) (digest : Bool) (fields : List TextLine) (o : Option Found) → is_silent name ≡ true → is_silent to ≡ true → NamedIn name fields o → SaysKind digest fields (renames to o)
renaming_says name to digest fields None s r h = tt
renaming_says name to digest fields (Some f) s r h = renamed_says name to digest fields f s r h (not (is_name to)) refl

-- a field that is given says nothing of the body
abbrev pub IsGivenSilent : List TextLine → Type 0
IsGivenSilent given = is_one_field given ≡ true → is_silent (first_name given) ≡ true

added_says : (top : Bool) (digest : Bool) (given fields : List TextLine) → IsGivenSilent given → (bad : Bool) → not (is_one_field given) ≡ bad → SaysKind digest fields (put_unless bad BadField (add_put top given fields))
added_says top digest given fields s true e = tt
added_says top digest given fields s false e =
    let good : is_one_field given ≡ true = not_false (is_one_field given) e in
    let new = silent (first_name given) (s good) in
    kind_same (lines_put (add_put top given fields)) fields digest (value_added top (codes "Content-Type") given fields good new.0) (value_added top (codes "Content-Transfer-Encoding") given fields good new.1)

set_says : (name : List ℕ) (digest : Bool) (given fields : List TextLine) (f : Found) → is_silent name ≡ true → IsGivenSilent given → IsNamedIn name fields f → (bad : Bool) → not (is_one_field given) ≡ bad → SaysKind digest fields (put_unless bad BadField (set_put given f))
set_says name digest given fields f s r h true e = tt
set_says name digest given fields f s r h false e =
    let old = silent name s in
    let good : is_one_field given ≡ true = not_false (is_one_field given) e in
    let new = silent (first_name given) (r good) in
    kind_same (f.before ++ (given ++ f.after)) fields digest (value_set name (codes "Content-Type") given fields f h good old.0 new.0) (value_set name (codes "Content-Transfer-Encoding") given fields f h good old.1 new.1)

setting_says : (name : List ℕ) (digest : Bool) (given fields : List TextLine) (o : Option Found) → is_silent name ≡ true → IsGivenSilent given → NamedIn name fields o → SaysKind digest fields (sets given o)
setting_says name digest given fields None s r h = tt
setting_says name digest given fields (Some f) s r h = set_says name digest given fields f s r h (not (is_one_field given)) refl

-- none of the names, old and new, says anything of the body
abbrev pub NamesSilent : FieldEdit → Type 0
NamesSilent (Add top text) = IsGivenSilent (cut text.now)
NamesSilent (Remove name k) = is_silent name.now ≡ true
NamesSilent (Rename name k to) = (is_silent name.now ≡ true) × (is_silent to.now ≡ true)
NamesSilent (Set name k text) = (is_silent name.now ≡ true) × IsGivenSilent (cut text.now)

names_by : (name : Bor (List ℕ)) (k : ℕ) (o : Option (Bor (List ℕ))) → is_silent name.now ≡ true → IfSome o (λ to. is_silent to.now ≡ true) → NamesSilent (by_option o (Remove name k) (λ to. Rename name k to))
names_by name k None s t = s
names_by name k (Some to) s t = (s, t)

pub names_silent : (edit : SilentEdit) (k : ℕ) → IsSilent edit → NamesSilent (numbered edit k)
names_silent edit k s = names_by edit.name k edit.to s.0 s.1

says : (edit : FieldEdit) (digest : Bool) (fields : List TextLine) → NamesSilent edit → SaysKind digest fields (puts edit fields)
says (Add top text) digest fields s = added_says top digest (cut text.now) fields s (not (is_one_field (cut text.now))) refl
says (Remove name k) digest fields s = removal_says name.now digest fields (field_at name.now k fields) s (found_named name.now k fields)
says (Rename name k to) digest fields s = renaming_says name.now to.now digest fields (field_at name.now k fields) s.0 s.1 (found_named name.now k fields)
says (Set name k text) digest fields s = setting_says name.now digest (cut text.now) fields (field_at name.now k fields) s.0 s.1 (found_named name.now k fields)

pub kind_stays : (edit : FieldEdit) (digest : Bool) (fields : List TextLine) (q : LinePut) → NamesSilent edit → puts edit fields ≡ Ok q → kind (lines_put q) digest ≡ kind fields digest
kind_stays edit digest fields q s h = subst (SaysKind digest fields) h (says edit digest fields s)
