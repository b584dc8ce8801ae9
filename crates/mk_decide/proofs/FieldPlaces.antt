-- Places of fields in the text of a head.
use Rattle.std.proofs.Common.{◌≡◌, ◌==◌, ◌||◌, ◌+◌, ◌-◌, ◌≤◌, ◌++◌, ℕ, zero, suc, Bool, true, false, Option, None, Some, List, [], ◌∷◌, refl, ap, sym, ◌∙◌, subst, length, arith, inl, inr, length-append, add-zero, IfSome, IfNone}
use Rattle.std.proofs.lemmas.Bool.{cases_Bool, eqb-true}
use Rattle.std.specs.Option.{option_map}
use Rattle.mk_line.specs.Lines.{TextLine, cut, text_of, printed_line, AreLines}
use Rattle.mk_line.proofs.Cuts.{text_cut, cut_text, lines_cut, lines_following}
use Rattle.mk_head.specs.Split.{is_start, is_more, belongs, fields_from}
use Rattle.mk_head.specs.Splits.{IsRun}
use Rattle.mk_head.specs.declared.fields.Field.{Field}
use Rattle.mk_head.specs.Views.{field_view}
use Rattle.mk_head.specs.Fields.{FieldText, continuations, field_text, fields_of, is_named}
use Rattle.mk_head.proofs.FieldRuns.{more_start}
use Rattle.mk_tree.specs.Spans.{size}
use Rattle.mk_decide.specs.FieldEdits.{starts_named, Found, found_after, find, field_at}
use Rattle.mk_decide.specs.FieldPuts.{placed_field, raw_size, IsFieldAt}
use Rattle.mk_decide.proofs.Runs.{belongs_start, IsFound, FoundIn, field_is}
use Rattle.mk_decide.proofs.Openings.{lines_front}
use Rattle.mk_decide.proofs.WrapFields.{start_more}

line_first : (l : TextLine) (ls : List TextLine) → size (l ∷ ls) ≡ length (printed_line l) + size ls
line_first l ls = length-append (printed_line l) (text_of ls)

or_none : (a : Bool) → (a || false) ≡ a
or_none true = refl
or_none false = refl

-- a line of a run that doesn't continue a field begins one
begins : (l : TextLine) → is_more l ≡ false → belongs true l ≡ true → is_start l ≡ true
begins l m h = sym (or_none (is_start l)) ∙ (ap (λ t. is_start l || t) (sym m) ∙ h)

-- the sizes of fields
after_size : (ls : List TextLine) → IsRun true ls → size (continuations ls) + raw_size (fields_of ls) ≡ size ls
after_size [] r = refl
after_size (l ∷ ls) r =
    elim (cases_Bool (is_more l)) [
      | inl m ↦ rw (m, more_start l m) (omega (arith, line_first l (continuations ls), line_first l ls, after_size ls r.1))
      | inr m ↦ rw (m, begins l m r.0) (omega (arith, line_first l (continuations ls), line_first l ls, after_size ls r.1))
    ]

none_first : (ls : List TextLine) → IsRun false ls → continuations ls ≡ []
none_first [] r = refl
none_first (l ∷ ls) r = rw (start_more l (belongs_start l r.0)) refl

run_true : (ls : List TextLine) → IsRun false ls → IsRun true ls
run_true [] r = tt
run_true (l ∷ ls) r = (rw (belongs_start l r.0) refl, r.1)

pub fields_size : (ls : List TextLine) → IsRun false ls → raw_size (fields_of ls) ≡ size ls
fields_size ls r = omega (arith, ap size (none_first ls r), after_size ls (run_true ls r))

-- the fields at the start of a text
run_from : (inside : Bool) (ls : List TextLine) → IsRun inside (fields_from inside ls)
run_from inside [] = tt
run_from inside (l ∷ ls) =
    elim (cases_Bool (belongs inside l)) [
      | inl b ↦ rw b (b, run_from true ls)
      | inr b ↦ rw b tt
    ]

from_size : (inside : Bool) (ls : List TextLine) → size (fields_from inside ls) ≤ size ls
from_size inside [] = omega arith
from_size inside (l ∷ ls) =
    elim (cases_Bool (belongs inside l)) [
      | inl b ↦ rw b (omega (arith, line_first l (fields_from true ls), line_first l ls, from_size true ls))
      | inr b ↦ rw b (omega arith)
    ]

pub fields_within : (text : List ℕ) → raw_size (fields_of (fields_from false (cut text))) ≤ length text
fields_within text = omega (arith, fields_size (fields_from false (cut text)) (run_from false (cut text)), from_size false (cut text), ap length (text_cut text))

pub run_all : (inside : Bool) (ls : List TextLine) → IsRun inside ls → fields_from inside ls ≡ ls
run_all inside [] r = refl
run_all inside (l ∷ ls) r = rw r.0 (ap (λ xs. l ∷ xs) (run_all true ls r.1))

-- a field that was found, after so many bytes
abbrev pub found_at : ℕ → Option Found → Option (ℕ × FieldText)
found_at place o = option_map (λ (f : Found). (place + size f.before, field_text f.start f.more)) o

further : (place a b c : ℕ) → c ≡ a + b → place + c ≡ place + a + b
further place a b c e = omega (arith, e)

found_further : (place : ℕ) (l : TextLine) (o : Option Found) → found_at place (found_after l o) ≡ found_at (place + length (printed_line l)) o
found_further place l None = refl
found_further place l (Some f) = ap (λ n. Some (n, field_text f.start f.more)) (further place (length (printed_line l)) (size f.before) (size (l ∷ f.before)) (line_first l f.before))

two_one : (k : ℕ) → suc (suc k) ≡ 1 → ⊥
two_one k e = omega arith

not_one : (k : ℕ) → (suc (suc k) == 1) ≡ false
not_one k =
    elim (cases_Bool (suc (suc k) == 1)) [
      | inl e ↦ absurd (two_one k (eqb-true (suc (suc k)) 1 e))
      | inr e ↦ e
    ]

one_less : (k : ℕ) → suc (suc k) - 1 ≡ suc k
one_less k = omega arith

after_one : (place a b : ℕ) (n : ℕ) → n ≡ a + b → place + n ≡ place + a + b
after_one place a b n e = omega (arith, e)

no_more : (place : ℕ) → place + 0 ≡ place
no_more place = add-zero place

pub no_field : (name : List ℕ) (place : ℕ) (fs : List FieldText) → placed_field name 0 place fs ≡ None
no_field name place [] = refl
no_field name place (f ∷ fs) =
    elim (cases_Bool (is_named name f)) [
      | inl n ↦ rw n (no_field name (place + length f.raw) fs)
      | inr n ↦ rw n (no_field name (place + length f.raw) fs)
    ]

passed : (name : List ℕ) (k place : ℕ) (l : TextLine) (ls : List TextLine) → starts_named name l ≡ false → found_at (place + length (printed_line l)) (find (starts_named name) k ls) ≡ found_at place (find (starts_named name) k (l ∷ ls))
passed name zero place l ls h = rw h (sym (found_further place l (find (starts_named name) zero ls)))
passed name (suc k) place l ls h = rw h (sym (found_further place l (find (starts_named name) (suc k) ls)))

step : (place : ℕ) (l : TextLine) (ls : List TextLine) → place + 0 + size (l ∷ continuations ls) ≡ place + length (printed_line l) + size (continuations ls)
step place l ls = omega (arith, line_first l (continuations ls))

started : (name : List ℕ) (k place : ℕ) (l : TextLine) (ls : List TextLine) → is_start l ≡ true
    → ((j p : ℕ) → placed_field name (suc j) (p + size (continuations ls)) (fields_of ls) ≡ found_at p (find (starts_named name) j ls))
    → placed_field name (suc k) (place + 0) (fields_of (l ∷ ls)) ≡ found_at place (find (starts_named name) k (l ∷ ls))
started name zero place l ls s h =
    elim (cases_Bool (is_named name (field_text l []))) [
      | inl n ↦ rw (s, n) refl
      | inr n ↦
          rw (s, n)
          (ap (λ p. placed_field name (suc zero) p (fields_of ls)) (step place l ls) ∙ (h zero (place + length (printed_line l)) ∙ sym (found_further place l (find (starts_named name) zero ls))))
    ]
started name (suc k) place l ls s h =
    elim (cases_Bool (is_named name (field_text l []))) [
      | inl n ↦
          rw (s, n, not_one k, one_less k)
          (ap (λ p. placed_field name (suc k) p (fields_of ls)) (step place l ls) ∙ (h k (place + length (printed_line l)) ∙ sym (found_further place l (find (starts_named name) k ls))))
      | inr n ↦
          rw (s, n)
          (ap (λ p. placed_field name (suc (suc k)) p (fields_of ls)) (step place l ls) ∙ (h (suc k) (place + length (printed_line l)) ∙ sym (found_further place l (find (starts_named name) (suc k) ls))))
    ]

-- the field at a place is the one found among the lines
after_found : (name : List ℕ) (k place : ℕ) (ls : List TextLine) → IsRun true ls → placed_field name (suc k) (place + size (continuations ls)) (fields_of ls) ≡ found_at place (find (starts_named name) k ls)
after_found name k place [] r = refl
after_found name k place (l ∷ ls) r =
    elim (cases_Bool (is_more l)) [
      | inl m ↦
          rw (m, more_start l m)
          (ap (λ n. placed_field name (suc k) n (fields_of ls)) (after_one place (length (printed_line l)) (size (continuations ls)) (size (l ∷ continuations ls)) (line_first l (continuations ls)))
          ∙ (after_found name k (place + length (printed_line l)) ls r.1 ∙ passed name k place l ls (rw (more_start l m) refl)))
      | inr m ↦ rw m (started name k place l ls (begins l m r.0) (λ j p. after_found name j p ls r.1))
    ]

none_size : (ls : List TextLine) → IsRun false ls → 0 ≡ 0 + size (continuations ls)
none_size ls r = omega (arith, ap size (none_first ls r))

pub found_there : (name : List ℕ) (k : ℕ) (ls : List TextLine) → IsRun false ls → placed_field name k 0 (fields_of (fields_from false ls)) ≡ found_at 0 (field_at name k ls)
found_there name zero ls r = no_field name 0 (fields_of (fields_from false ls))
found_there name (suc k) ls r =
    ap (λ xs. placed_field name (suc k) 0 (fields_of xs)) (run_all false ls r)
    ∙ (ap (λ n. placed_field name (suc k) n (fields_of ls)) (none_size ls r) ∙ after_found name k 0 ls (run_true ls r))

-- a field that is there
abbrev FoundThere : List ℕ → ℕ → List TextLine → Option (ℕ × FieldText) → Option Found → Type 0
FoundThere name k ls None o = o ≡ None
FoundThere name k ls (Some q) o = (f : Found) × (o ≡ Some f) × (q.0 ≡ size f.before) × (q.1 ≡ field_text f.start f.more)

zero_add : (n : ℕ) → 0 + n ≡ n
zero_add n = omega arith

there : (name : List ℕ) (k : ℕ) (ls : List TextLine) (o : Option Found) → FoundThere name k ls (found_at 0 o) o
there name k ls None = refl
there name k ls (Some f) = (f, refl, zero_add (size f.before), refl)

pub is_there : (text name : List ℕ) (k : ℕ) (place : ℕ) (field : FieldText) → IsRun false (cut text) → Some (place, field) ≡ placed_field name k 0 (fields_of (fields_from false (cut text))) → IsFieldAt name k (cut text) place field
is_there text name k place field r e =
    let t : FoundThere name k (cut text) (Some (place, field)) (field_at name k (cut text)) = subst (λ q. FoundThere name k (cut text) q (field_at name k (cut text))) (sym (e ∙ found_there name k (cut text) r)) (there name k (cut text) (field_at name k (cut text))) in
    let f = t.0 in
    let g : IsFound (cut text) f = subst (FoundIn (cut text)) t.1 (field_is name k (cut text)) in
    let following : AreLines (f.start ∷ (f.more ++ f.after)) = lines_following f.before (f.start ∷ (f.more ++ f.after)) (subst AreLines (sym g.whole) (lines_cut text)) in
    let own : AreLines (f.start ∷ f.more) = lines_front (f.start ∷ f.more) f.after following in
    record {
      found = f;
      is = t.1;
      following = t.2;
      name = ap (λ (x : FieldText). x.name) t.3;
      raw = ap (λ (x : FieldText). x.raw) t.3;
      lines = ap (λ (x : FieldText). cut x.raw) t.3 ∙ cut_text (f.start ∷ f.more) own;
    }

pub is_missing : (text name : List ℕ) (k : ℕ) → IsRun false (cut text) → None ≡ placed_field name k 0 (fields_of (fields_from false (cut text))) → field_at name k (cut text) ≡ None
is_missing text name k r e = subst (λ q. FoundThere name k (cut text) q (field_at name k (cut text))) (sym (e ∙ found_there name k (cut text) r)) (there name k (cut text) (field_at name k (cut text)))

pub some_there : (text name : List ℕ) (k : ℕ) (o : Option (ℕ × Field)) → IsRun false (cut text) → option_map (λ (r : ℕ × Field). (r.0, field_view r.1)) o ≡ placed_field name k 0 (fields_of (fields_from false (cut text))) → IfSome o (λ (r : ℕ × Field). IsFieldAt name k (cut text) r.0 (field_view r.1))
some_there text name k None r e = tt
some_there text name k (Some q) r e = is_there text name k q.0 (field_view q.1) r e

pub none_there : (text name : List ℕ) (k : ℕ) (o : Option (ℕ × Field)) → IsRun false (cut text) → option_map (λ (r : ℕ × Field). (r.0, field_view r.1)) o ≡ placed_field name k 0 (fields_of (fields_from false (cut text))) → IfNone o (field_at name k (cut text) ≡ None)
none_there text name k None r e = is_missing text name k r e
none_there text name k (Some q) r e = tt
