-- The fields that are passed over on the way to the k-th of a name.
use Rattle.std.proofs.Common.{◌≡◌, ◌==◌, ◌+◌, ◌-◌, ◌≤◌, ◌<◌, ◌++◌, ◌⊎◌, ℕ, true, false, Some, IfSome, List, [], ◌∷◌, refl, ap, sym, ◌∙◌, subst, filter, length, take, drop, arith, inl, inr, append_assoc}
use Rattle.std.proofs.lemmas.Bool.{cases_Bool, eqb-true}
use Rattle.std.proofs.lemmas.Bool.Decides.{nat_tests}
use Rattle.mk_line.specs.Lines.{TextLine, cut}
use Rattle.mk_head.specs.Split.{fields_from}
use Rattle.mk_head.specs.Splits.{IsRun}
use Rattle.mk_head.specs.Fields.{FieldText, fields_of, is_named}
use Rattle.mk_tree.specs.Spans.{size}
use Rattle.mk_tree.proofs.Descent.{size_append}
use Rattle.mk_decide.specs.FieldEdits.{starts_named}
use Rattle.mk_decide.specs.FieldPuts.{placed_field, raw_size, IsFieldAt}
use Rattle.mk_decide.proofs.FieldPlaces.{fields_size, is_there, run_all}
use Rattle.mk_decide.proofs.Runs.{IsFound, FoundIn, field_is, run_following, run_join, run_start}
use Rattle.mk_edit.specs.declared.silent_edits.SilentEdit.{SilentEdit}
use Rattle.mk_edit.specs.RootFields.{IsBehind}
use Rattle.mk_edit.specs.inner.FieldNames.{BeginsField}
use Rattle.mk_edit.specs.inner.Passing.{passed_over}
use Rattle.mk_edit.proofs.PassedFields.{found_counted}
use Rattle.mk_edit.proofs.PassedNames.{count_append, cut_between, fields_named, overlap, run_front, Overlap}

-- either the field is met, or all are passed
record IsMet (name : List ℕ) (k place : ℕ) (fs : List FieldText) : Type 0 where
  at : ℕ
  field : FieldText
  found : placed_field name k place fs ≡ Some (at, field)
  passed : passed_over name k place fs ≡ (at, 1)

record AllPassed (name : List ℕ) (k place : ℕ) (fs : List FieldText) : Type 0 where
  fewer : length (filter (is_named name) fs) < k
  passed : passed_over name k place fs ≡ (place + raw_size fs, k - length (filter (is_named name) fs))

pair_is : (a b c d : ℕ) → a ≡ c → b ≡ d → ◌≡◌ {A = ℕ × ℕ} (a, b) (c, d)
pair_is a b c d e f = λ i. (e i, f i)

abbrev Passes : List ℕ → ℕ → ℕ → List FieldText → Type 0
Passes name k place fs = IsMet name k place fs ⊎ AllPassed name k place fs

met_here : (name : List ℕ) (k place : ℕ) (f : FieldText) (fs : List FieldText) → is_named name f ≡ true → (k == 1) ≡ true → k ≡ 1 → Passes name k place (f ∷ fs)
met_here name k place f fs n o e = inl (record { at = place; field = f; found = rw (n, o) refl; passed = rw (n, o) (pair_is place k place 1 refl e) })

named_later : (name : List ℕ) (k place : ℕ) (f : FieldText) (fs : List FieldText) → is_named name f ≡ true → (k == 1) ≡ false → Passes name (k - 1) (place + length f.raw) fs → Passes name k place (f ∷ fs)
named_later name k place f fs n o (inl m) = inl (record { at = m.at; field = m.field; found = rw (n, o) m.found; passed = rw (n, o) m.passed })
named_later name k place f fs n o (inr m) =
    inr (record {
      fewer = rw n (omega (arith, m.fewer));
      passed = rw (n, o) (m.passed ∙ pair_is _ _ _ _ (omega arith) (omega arith));
    })

other_later : (name : List ℕ) (k place : ℕ) (f : FieldText) (fs : List FieldText) → is_named name f ≡ false → Passes name k (place + length f.raw) fs → Passes name k place (f ∷ fs)
other_later name k place f fs n (inl m) = inl (record { at = m.at; field = m.field; found = rw n m.found; passed = rw n m.passed })
other_later name k place f fs n (inr m) = inr (record { fewer = rw n m.fewer; passed = rw n (m.passed ∙ pair_is _ _ _ _ (omega arith) refl) })

not_one : (k : ℕ) → 0 < k → (k == 1) ≡ false → 0 < k - 1
not_one k o e = grind (arith, nat_tests)

passes : (name : List ℕ) (k place : ℕ) (fs : List FieldText) → 0 < k → Passes name k place fs
passes name k place [] o = inr (record { fewer = o; passed = pair_is _ _ _ _ (omega arith) (omega arith) })
passes name k place (f ∷ fs) o =
    elim (cases_Bool (is_named name f)) [
      | inl n ↦
          elim (cases_Bool (k == 1)) [
            | inl e ↦ met_here name k place f fs n e (eqb-true k 1 e)
            | inr e ↦ named_later name k place f fs n e (passes name (k - 1) (place + length f.raw) fs (not_one k o e))
          ]
      | inr n ↦ other_later name k place f fs n (passes name k (place + length f.raw) fs o)
    ]

-- the lines before, and those after
pub record Over (ls : List TextLine) (name : List ℕ) (k : ℕ) (r : ℕ × ℕ) : Type 0 where
  pub before : List TextLine
  pub after : List TextLine
  pub whole : before ++ after ≡ ls
  pub takes : size before ≡ r.0
  pub number : k ≡ length (filter (starts_named name) before) + r.1
  pub some : 0 < r.1
  pub run : IsRun false after

over_met : (text name : List ℕ) (k : ℕ) → IsRun false (cut text) → IsMet name k 0 (fields_of (fields_from false (cut text))) → Over (cut text) name k (passed_over name k 0 (fields_of (fields_from false (cut text))))
over_met text name k r m =
    let at : IsFieldAt name k (cut text) m.at m.field = is_there text name k m.at m.field r (sym m.found) in
    let f = at.found in
    let g : IsFound (cut text) f = subst (FoundIn (cut text)) at.is (field_is name k (cut text)) in
    let counted = subst (λ o. IfSome o (λ x. (1 ≤ k) × (length (filter (starts_named name) x.before) ≡ k - 1))) at.is (found_counted name k (cut text)) in
    subst (Over (cut text) name k) (sym m.passed)
    (record {
      before = f.before;
      after = f.start ∷ (f.more ++ f.after);
      whole = g.whole;
      takes = sym at.following;
      number = omega (arith, counted.0, counted.1);
      some = omega arith;
      run = run_start f.start (f.more ++ f.after) g.start (run_following (cut text) f g r);
    })

nothing_after : (ls : List TextLine) → ls ++ [] ≡ ls
nothing_after [] = refl
nothing_after (l ∷ ls) = ap (λ xs. l ∷ xs) (nothing_after ls)

over_all : (ls : List TextLine) (name : List ℕ) (k : ℕ) → IsRun false ls → AllPassed name k 0 (fields_of (fields_from false ls)) → Over ls name k (passed_over name k 0 (fields_of (fields_from false ls)))
over_all ls name k r m =
    let fields = ap fields_of (run_all false ls r) in
    let counted : length (filter (is_named name) (fields_of (fields_from false ls))) ≡ length (filter (starts_named name) ls) = ap (λ fs. length (filter (is_named name) fs)) fields ∙ fields_named name ls in
    subst (Over ls name k) (sym m.passed)
    (record {
      before = ls;
      after = [];
      whole = nothing_after ls;
      takes = sym (omega (arith, ap raw_size fields, fields_size ls r));
      number = omega (arith, m.fewer, counted);
      some = omega (arith, m.fewer);
      run = tt;
    })

over : (text name : List ℕ) (k : ℕ) → IsRun false (cut text) → Passes name k 0 (fields_of (fields_from false (cut text))) → Over (cut text) name k (passed_over name k 0 (fields_of (fields_from false (cut text))))
over text name k r (inl m) = over_met text name k r m
over text name k r (inr m) = over_all (cut text) name k r m

-- further on among the fields before a place
between : (fields here : List ℕ) (edit : SilentEdit) (bytes k gap : ℕ) (r : ℕ × ℕ) (zs : List TextLine) (b : IsBehind (cut fields) bytes edit k) (g : BeginsField (cut fields) gap)
    → b.following ≡ zs ++ g.after → cut here ≡ zs → Over (cut here) edit.name.now k r → IsBehind (cut fields) (bytes + r.0) edit r.1
between fields here edit bytes k gap r zs b g rest lines o =
    let parts : o.before ++ o.after ≡ zs = o.whole ∙ lines in
    record {
      before = b.before ++ o.before;
      following = o.after ++ g.after;
      whole =
          append_assoc b.before o.before (o.after ++ g.after)
          ∙ (ap (λ xs. b.before ++ xs) (sym (append_assoc o.before o.after g.after) ∙ (ap (λ xs. xs ++ g.after) parts ∙ sym rest)) ∙ b.whole);
      takes = omega (arith, size_append b.before o.before, b.takes, o.takes);
      number = omega (arith, count_append (starts_named edit.name.now) b.before o.before, b.number, o.number);
      some = o.some;
      run = run_join false o.after g.after o.run g.run;
    }

by_overlap : (fields here : List ℕ) (edit : SilentEdit) (bytes k gap : ℕ) → (b : IsBehind (cut fields) bytes edit k) → (g : BeginsField (cut fields) gap) → bytes < gap → here ≡ take (gap - bytes) (drop bytes fields) → Overlap b.before b.following g.before g.after
    → let r = passed_over edit.name.now k 0 (fields_of (fields_from false (cut here))) in IsBehind (cut fields) (bytes + r.0) edit r.1
by_overlap fields here edit bytes k gap b g less h (inr p) = absurd (omega (arith, b.takes, g.takes, less, ap size p.1, size_append g.before p.0))
by_overlap fields here edit bytes k gap b g less h (inl p) =
    let zs = p.0 in
    let whole : cut fields ≡ b.before ++ (zs ++ g.after) = sym b.whole ∙ ap (λ xs. b.before ++ xs) p.2 in
    let long : gap - bytes ≡ size zs = omega (arith, b.takes, g.takes, ap size p.1, size_append b.before zs) in
    let lines : cut here ≡ zs =
    ap cut h ∙ (ap (λ n. cut (take n (drop bytes fields))) long ∙ (ap (λ n. cut (take (size zs) (drop n fields))) (sym b.takes) ∙ cut_between fields b.before zs g.after whole)) in
    let run : IsRun false (cut here) = subst (IsRun false) (sym lines) (run_front false zs g.after (subst (IsRun false) p.2 b.run)) in
    between fields here edit bytes k gap (passed_over edit.name.now k 0 (fields_of (fields_from false (cut here)))) zs b g p.2 lines
    (over here edit.name.now k run (passes edit.name.now k 0 (fields_of (fields_from false (cut here))) b.some))

-- where the search of an edit's field goes on after the fields before a place
pub further_on : (fields here : List ℕ) (edit : SilentEdit) (bytes k gap : ℕ) → (b : IsBehind (cut fields) bytes edit k) → (g : BeginsField (cut fields) gap) → bytes < gap → here ≡ take (gap - bytes) (drop bytes fields)
    → let r = passed_over edit.name.now k 0 (fields_of (fields_from false (cut here))) in IsBehind (cut fields) (bytes + r.0) edit r.1
further_on fields here edit bytes k gap b g less h = by_overlap fields here edit bytes k gap b g less h (overlap b.before b.following g.before g.after (b.whole ∙ sym g.whole))
