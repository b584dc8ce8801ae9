-- A line that is the first field of its name among others, and stays it.
use Rattle.std.proofs.Common.{◌≡◌, ◌⊎◌, ◌++◌, if◌then◌else◌, ℕ, Bool, true, false, Option, None, Some, List, [], ◌∷◌, refl, ap, ◌∙◌, subst, filter, inl, inr}
use Rattle.std.proofs.lemmas.Bool.{cases_Bool}
use Rattle.mk_line.specs.Lines.{TextLine}
use Rattle.mk_head.specs.Split.{is_more, is_start}
use Rattle.mk_head.specs.Fields.{FieldText, continuations, field_text, fields_of, is_named, after_more}
use Rattle.mk_head.specs.Types.{field_value}
use Rattle.mk_head.specs.Unfolding.{value_in}
use Rattle.mk_decide.specs.FieldEdits.{Found, find, found_after, starts_named}

-- a line is the first field of a name, and ends there
abbrev pub IsFirst : List ℕ → TextLine → List TextLine → Type 0
IsFirst name first [] = ⊥
IsFirst name first (l ∷ ls) = ((l ≡ first) × (continuations ls ≡ [])) ⊎ ((starts_named name l ≡ false) × IsFirst name first ls)

-- its value is that of the line
pub first_is_read : (name : List ℕ) (first : TextLine) (ls : List TextLine) → starts_named name first ≡ true → IsFirst name first ls → field_value name ls ≡ Some (value_in (first ∷ []))
first_is_read name first [] named h = absurd h
first_is_read name first (l ∷ ls) named (inl h) =
    let starts : starts_named name l ≡ true = ap (starts_named name) h.0 ∙ named in
    rw starts (ap (λ more. Some (value_in (l ∷ more))) h.1 ∙ ap (λ x. Some (value_in (x ∷ []))) h.0)
first_is_read name first (l ∷ ls) named (inr h) = rw h.0 (first_is_read name first ls named h.1)

pub nil_cons : {A : Type 0} (f : FieldText) (fs : List FieldText) → ◌≡◌ {A = List FieldText} (f ∷ fs) [] → A
nil_cons f fs e = cc

pub none_found : {A : Type 0} (f : Found) → ◌≡◌ {A = Option Found} None (Some f) → A
none_found f e = cc

pub same_found : (f g : Found) → ◌≡◌ {A = Option Found} (Some f) (Some g) → f ≡ g
same_found f g e = cc

-- a line after fields of which none has the name
pub first_after : (name : List ℕ) (first : TextLine) (ls : List TextLine) → filter (is_named name) (fields_of ls) ≡ [] → IsFirst name first (ls ++ first ∷ [])
first_after name first [] none = inl (refl, refl)
first_after name first (l ∷ ls) none = elim (cases_Bool (is_start l)) [
  | inr other ↦ inr (rw other refl, first_after name first ls (rw other at none))
  | inl start ↦ elim (cases_Bool (is_named name (field_text l (continuations ls)))) [
    | inl named ↦ nil_cons (field_text l (continuations ls)) (filter (is_named name) (fields_of ls)) (rw (start, named) at none)
    | inr unnamed ↦ inr (rw (start, unnamed) refl, first_after name first ls (rw (start, unnamed) at none))
  ]
]

-- no continuation stands after the continuations
pub ended : (ls : List TextLine) → continuations (after_more ls) ≡ []
ended [] = refl
ended (l ∷ ls) = elim (cases_Bool (is_more l)) [
  | inl more ↦ rw more (ended ls)
  | inr other ↦ rw other (rw other refl)
]

-- a line in the place of the first field of the name
put_by : (name : List ℕ) (first l : TextLine) (o : Option Found) (f : Found) → starts_named name l ≡ false → ((g : Found) → o ≡ Some g → IsFirst name first (g.before ++ (first ∷ g.after))) → found_after l o ≡ Some f
    → IsFirst name first (f.before ++ (first ∷ f.after))
put_by name first l None f other rest e = none_found f e
put_by name first l (Some g) f other rest e =
    let now : Found = record { before = l ∷ g.before; start = g.start; more = g.more; after = g.after } in
    subst (λ (x : Found). IsFirst name first (x.before ++ (first ∷ x.after))) (same_found now f e) (inr (other, rest g refl))

pub first_put : (name : List ℕ) (first : TextLine) (ls : List TextLine) (f : Found) → find (starts_named name) 0 ls ≡ Some f → IsFirst name first (f.before ++ (first ∷ f.after))
first_put name first [] f e = none_found f e
first_put name first (l ∷ ls) f e = elim (cases_Bool (starts_named name l)) [
  | inl named ↦
      let now : Found = record { before = []; start = l; more = continuations ls; after = after_more ls } in
      subst (λ (x : Found). IsFirst name first (x.before ++ (first ∷ x.after))) (same_found now f (rw named at e)) (inl (refl, ended ls))
  | inr other ↦ put_by name first l (find (starts_named name) 0 ls) f other (λ g. first_put name first ls g) (rw other at e)
]

-- without a later field of the name
gone_by : (l : TextLine) (ls : List TextLine) (o : Option Found) (f : Found) → is_more l ≡ false → found_after l o ≡ Some f → continuations (f.before ++ f.after) ≡ []
gone_by l ls None f other e = none_found f e
gone_by l ls (Some g) f other e =
    let now : Found = record { before = l ∷ g.before; start = g.start; more = g.more; after = g.after } in
    subst (λ (x : Found). continuations (x.before ++ x.after) ≡ []) (same_found now f e) (rw other refl)

line_nil : {A : Type 0} (l : TextLine) (ls : List TextLine) → ◌≡◌ {A = List TextLine} (l ∷ ls) [] → A
line_nil l ls e = cc

no_more : (l : TextLine) (ls : List TextLine) (t : Bool) → is_more l ≡ t → (if t then l ∷ ls else []) ≡ [] → is_more l ≡ false
no_more l ls true h none = line_nil l ls none
no_more l ls false h none = h

still_ended : (test : TextLine → Bool) (ls : List TextLine) (f : Found) → continuations ls ≡ [] → find test 0 ls ≡ Some f → continuations (f.before ++ f.after) ≡ []
still_ended test [] f none e = none_found f e
still_ended test (l ∷ ls) f none e = elim (cases_Bool (test l)) [
  | inl named ↦
      let now : Found = record { before = []; start = l; more = continuations ls; after = after_more ls } in
      subst (λ (x : Found). continuations (x.before ++ x.after) ≡ []) (same_found now f (rw named at e)) (ended ls)
  | inr other ↦ gone_by l ls (find test 0 ls) f (no_more l (continuations ls) (is_more l) refl none) (rw other at e)
]

first_following : (name : List ℕ) (first l : TextLine) (o : Option Found) (f : Found) → ((g : Found) → o ≡ Some g → ((l ≡ first) × (continuations (g.before ++ g.after) ≡ [])) ⊎ ((starts_named name l ≡ false) × IsFirst name first (g.before ++ g.after))) → found_after l o ≡ Some f
    → IsFirst name first (f.before ++ f.after)
first_following name first l None f rest e = none_found f e
first_following name first l (Some g) f rest e =
    let now : Found = record { before = l ∷ g.before; start = g.start; more = g.more; after = g.after } in
    subst (λ (x : Found). IsFirst name first (x.before ++ x.after)) (same_found now f e) (rest g refl)

pub first_stays : (name : List ℕ) (first : TextLine) (ls : List TextLine) (f : Found) → starts_named name first ≡ true → IsFirst name first ls → find (starts_named name) 1 ls ≡ Some f → IsFirst name first (f.before ++ f.after)
first_stays name first [] f named h e = absurd h
first_stays name first (l ∷ ls) f named (inl h) e =
    let starts : starts_named name l ≡ true = ap (starts_named name) h.0 ∙ named in
    first_following name first l (find (starts_named name) 0 ls) f (λ g found. inl (h.0, still_ended (starts_named name) ls g h.1 found)) (rw starts at e)
first_stays name first (l ∷ ls) f named (inr h) e =
    first_following name first l (find (starts_named name) 1 ls) f (λ g found. inr (h.0, first_stays name first ls g named h.1 found)) (rw h.0 at e)
