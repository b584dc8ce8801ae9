-- Runs of fields: joined, taken apart, and with a field found in them.
use Rattle.std.proofs.Common.{◌≡◌, ◌&&◌, ◌||◌, ◌++◌, if◌then◌else◌, ℕ, zero, suc, Bool, true, false, Option, None, Some, List, [], ◌∷◌, refl, ap, sym, ◌∙◌, subst, inl, inr}
use Rattle.std.proofs.lemmas.Bool.{cases_Bool}
use Rattle.std.specs.List.{list_all}
use Rattle.mk_line.specs.Lines.{TextLine}
use Rattle.mk_head.specs.Split.{is_start, is_more, belongs}
use Rattle.mk_head.specs.Splits.{IsRun}
use Rattle.mk_head.specs.Fields.{continuations, is_one_field, after_more}
use Rattle.mk_decide.proofs.PlanNames.{added}
use Rattle.mk_decide.specs.FieldEdits.{starts_named, Found, found_after, find, field_at}

or_false : (a : Bool) → (a || false) ≡ a
or_false true = refl
or_false false = refl

or_true : (a : Bool) → (a || true) ≡ true
or_true true = refl
or_true false = refl

pub start_belongs : (inside : Bool) (l : TextLine) → is_start l ≡ true → belongs inside l ≡ true
start_belongs inside l h = rw h refl

pub belongs_start : (l : TextLine) → belongs false l ≡ true → is_start l ≡ true
belongs_start l h = sym (or_false (is_start l)) ∙ h

-- a run of its own stands after anything
pub run_anywhere : (inside : Bool) (ls : List TextLine) → IsRun false ls → IsRun inside ls
run_anywhere inside [] r = tt
run_anywhere inside (l ∷ ls) r = (start_belongs inside l (belongs_start l r.0), r.1)

pub run_join : (inside : Bool) (xs ys : List TextLine) → IsRun inside xs → IsRun false ys → IsRun inside (xs ++ ys)
run_join inside [] ys r s = run_anywhere inside ys s
run_join inside (x ∷ xs) ys r s = (r.0, run_join true xs ys r.1 s)

run_front : (inside : Bool) (xs ys : List TextLine) → IsRun inside (xs ++ ys) → IsRun inside xs
run_front inside [] ys r = tt
run_front inside (x ∷ xs) ys r = (r.0, run_front true xs ys r.1)

run_rest : (inside : Bool) (xs : List TextLine) (y : TextLine) (ys : List TextLine) → IsRun inside (xs ++ (y ∷ ys)) → IsRun true ys
run_rest inside [] y ys r = r.1
run_rest inside (x ∷ xs) y ys r = run_rest true xs y ys r.1

-- one field is a run
both : (a b : Bool) → (a && b) ≡ true → (a ≡ true) × (b ≡ true)
both true b h = (refl, h)
both false b h = cc

more_run : (ls : List TextLine) → list_all is_more ls ≡ true → IsRun true ls
more_run [] h = tt
more_run (l ∷ ls) h =
    let p = both (is_more l) (list_all is_more ls) h in
    (rw p.0 (or_true (is_start l)), more_run ls p.1)

pub one_run : (g : List TextLine) → is_one_field g ≡ true → IsRun false g
one_run [] h = tt
one_run (l ∷ ls) h =
    let p = both (is_start l) (list_all is_more ls) h in
    (start_belongs false l p.0, more_run ls p.1)

pub added_run : (top : Bool) (g fields : List TextLine) → IsRun false g → IsRun false fields → IsRun false (added top g fields)
added_run true g fields r s = run_join false g fields r s
added_run false g fields r s = run_join false fields g s r

-- the lines after a field begin another
pub after_run : (ls : List TextLine) → IsRun true ls → IsRun false (after_more ls)
after_run [] r = tt
after_run (l ∷ ls) r =
    elim (cases_Bool (is_more l)) [
      | inl h ↦ rw h (after_run ls r.1)
      | inr h ↦ rw h (start_belongs false l (sym (or_false (is_start l)) ∙ (ap (λ t. is_start l || t) (sym h) ∙ r.0)), r.1)
    ]

pub more_after : (ls : List TextLine) → continuations ls ++ after_more ls ≡ ls
more_after [] = refl
more_after (l ∷ ls) =
    elim (cases_Bool (is_more l)) [
      | inl h ↦ rw h (ap (λ xs. l ∷ xs) (more_after ls))
      | inr h ↦ rw h refl
    ]

-- a field that is found
pub record IsFound (ls : List TextLine) (f : Found) : Type 0 where
  pub whole : f.before ++ (f.start ∷ (f.more ++ f.after)) ≡ ls
  pub start : is_start f.start ≡ true
  pub after : IsRun true (f.more ++ f.after) → IsRun false f.after

abbrev pub FoundIn : List TextLine → Option Found → Type 0
FoundIn ls None = Unit {0}
FoundIn ls (Some f) = IsFound ls f

later : (l : TextLine) (ls : List TextLine) (o : Option Found) → FoundIn ls o → FoundIn (l ∷ ls) (found_after l o)
later l ls None h = tt
later l ls (Some f) h = record { whole = ap (λ xs. l ∷ xs) h.whole; start = h.start; after = h.after }

here : (t : Bool) (l : TextLine) (ls : List TextLine) (o : Option Found) → (t ≡ true → is_start l ≡ true) → FoundIn ls o → FoundIn (l ∷ ls) (if t then Some (record { before = []; start = l; more = continuations ls; after = after_more ls }) else found_after l o)
here true l ls o s h = record {
  whole = ap (λ xs. l ∷ xs) (more_after ls);
  start = s refl;
  after = λ r. after_run ls (subst (IsRun true) (more_after ls) r);
}
here false l ls o s h = later l ls o h

find_is : (test : TextLine → Bool) → ((l : TextLine) → test l ≡ true → is_start l ≡ true) → (k : ℕ) (ls : List TextLine) → FoundIn ls (find test k ls)
find_is test s k [] = tt
find_is test s zero (l ∷ ls) = here (test l) l ls (find test zero ls) (s l) (find_is test s zero ls)
find_is test s (suc k) (l ∷ ls) = later l ls (find test (if test l then k else suc k) ls) (find_is test s (if test l then k else suc k) ls)

named_start : (name : List ℕ) (l : TextLine) → starts_named name l ≡ true → is_start l ≡ true
named_start name l h = (both (is_start l) _ h).0

pub field_is : (name : List ℕ) (k : ℕ) (ls : List TextLine) → FoundIn ls (field_at name k ls)
field_is name zero ls = tt
field_is name (suc k) ls = find_is (starts_named name) (named_start name) k ls

-- the runs around it
pub run_before : (ls : List TextLine) (f : Found) → IsFound ls f → IsRun false ls → IsRun false f.before
run_before ls f h r = run_front false f.before (f.start ∷ (f.more ++ f.after)) (subst (IsRun false) (sym h.whole) r)

pub run_following : (ls : List TextLine) (f : Found) → IsFound ls f → IsRun false ls → IsRun true (f.more ++ f.after)
run_following ls f h r = run_rest false f.before f.start (f.more ++ f.after) (subst (IsRun false) (sym h.whole) r)

pub run_after : (ls : List TextLine) (f : Found) → IsFound ls f → IsRun false ls → IsRun false f.after
run_after ls f h r = h.after (run_following ls f h r)

pub run_start : (l : TextLine) (ls : List TextLine) → is_start l ≡ true → IsRun true ls → IsRun false (l ∷ ls)
run_start l ls h r = (start_belongs false l h, r)
