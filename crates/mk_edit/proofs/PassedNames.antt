-- What is known of the names of fields, among fewer lines and among more.
use Rattle.std.proofs.Common.{◌≡◌, ◌+◌, ◌-◌, ◌<◌, ◌++◌, ◌⊎◌, ℕ, suc, Bool, true, false, Option, None, Some, List, [], ◌∷◌, refl, ap, sym, ◌∙◌, subst, filter, length, take, drop, arith, length-append, inl, inr}
use Rattle.std.proofs.Math.Seq.{take-append_seam}
use Rattle.std.proofs.lemmas.List.Elements.{filter-append}
use Rattle.std.specs.Global.{Vec}
use Rattle.mk_line.specs.Lines.{TextLine, cut, text_of, AreLines}
use Rattle.mk_line.proofs.Cuts.{cut_text, drop_lines, lines_following, lines_cut, text_append}
use Rattle.mk_head.specs.Split.{fields_from, is_start}
use Rattle.mk_head.specs.Splits.{IsRun}
use Rattle.mk_head.specs.Fields.{field_text, fields_of, is_named}
use Rattle.mk_tree.specs.Spans.{size}
use Rattle.mk_tree.proofs.Descent.{size_append}
use Rattle.mk_tree.proofs.Heads.{lines_front}
use Rattle.mk_decide.specs.FieldEdits.{starts_named}
use Rattle.mk_decide.proofs.FieldPlaces.{run_all}
use Rattle.mk_edit.specs.inner.FieldNames.{may_have, AreRead, BeginsField, HasMarks, KnowsNames}

no_lines : (x : TextLine) (xs : List TextLine) → ◌≡◌ {A = List TextLine} (x ∷ xs) [] → ⊥
no_lines x xs e = cc

-- where lines are joined in two ways, one of the first parts begins with the other
first_is : (x y : TextLine) (xs ys : List TextLine) → x ∷ xs ≡ y ∷ ys → x ≡ y
first_is x y xs ys e = cc

rest_is : (x y : TextLine) (xs ys : List TextLine) → x ∷ xs ≡ y ∷ ys → xs ≡ ys
rest_is x y xs ys e = cc

abbrev pub Overlap : List TextLine → List TextLine → List TextLine → List TextLine → Type 0
Overlap xs ys us vs = ((zs : List TextLine) × (us ≡ xs ++ zs) × (ys ≡ zs ++ vs)) ⊎ ((zs : List TextLine) × (xs ≡ us ++ zs))

longer : (x u : TextLine) (xs ys us vs : List TextLine) → x ≡ u → Overlap xs ys us vs → Overlap (x ∷ xs) ys (u ∷ us) vs
longer x u xs ys us vs e (inl p) = inl (p.0, ap (λ l. l ∷ us) (sym e) ∙ ap (λ ls. x ∷ ls) p.1, p.2)
longer x u xs ys us vs e (inr p) = inr (p.0, ap (λ l. l ∷ xs) e ∙ ap (λ ls. u ∷ ls) p.1)

pub overlap : (xs ys us vs : List TextLine) → xs ++ ys ≡ us ++ vs → Overlap xs ys us vs
overlap [] ys us vs e = inl (us, refl, e)
overlap (x ∷ xs) ys [] vs e = inr (x ∷ xs, refl)
overlap (x ∷ xs) ys (u ∷ us) vs e = longer x u xs ys us vs (first_is x u (xs ++ ys) (us ++ vs) e) (overlap xs ys us vs (rest_is x u (xs ++ ys) (us ++ vs) e))

-- how many lines pass a test
pub count_append : (test : TextLine → Bool) (xs ys : List TextLine) → length (filter test (xs ++ ys)) ≡ length (filter test xs) + length (filter test ys)
count_append test xs ys = ap length (filter-append test xs ys) ∙ length-append (filter test xs) (filter test ys)

count_front : (test : TextLine → Bool) (ls xs ys : List TextLine) → ls ≡ xs ++ ys → length (filter test ls) ≡ 0 → length (filter test xs) ≡ 0
count_front test ls xs ys e h = omega (arith, ap (λ l. length (filter test l)) e, count_append test xs ys, h)

-- as many fields have a name as field starts
fields_by : (name : List ℕ) (l : TextLine) (ls : List TextLine) (s t : Bool) → is_start l ≡ s → is_named name (field_text l []) ≡ t → length (filter (is_named name) (fields_of ls)) ≡ length (filter (starts_named name) ls)
    → length (filter (is_named name) (fields_of (l ∷ ls))) ≡ length (filter (starts_named name) (l ∷ ls))
fields_by name l ls true true s t e = rw (s, t) (ap suc e)
fields_by name l ls true false s t e = rw (s, t) e
fields_by name l ls false t s u e = rw s e

pub fields_named : (name : List ℕ) (ls : List TextLine) → length (filter (is_named name) (fields_of ls)) ≡ length (filter (starts_named name) ls)
fields_named name [] = refl
fields_named name (l ∷ ls) = fields_by name l ls (is_start l) (is_named name (field_text l [])) refl refl (fields_named name ls)

-- the lines between
pub run_front : (inside : Bool) (xs ys : List TextLine) → IsRun inside (xs ++ ys) → IsRun inside xs
run_front inside [] ys r = tt
run_front inside (x ∷ xs) ys r = (r.0, run_front true xs ys r.1)

pub cut_between : (text : List ℕ) (xs ys zs : List TextLine) → cut text ≡ xs ++ (ys ++ zs) → cut (take (size ys) (drop (size xs) text)) ≡ ys
cut_between text xs ys zs e =
    ap (λ t. cut (take (size ys) t)) (drop_lines text xs (ys ++ zs) e ∙ text_append ys zs)
    ∙ (ap cut (take-append_seam (text_of ys) (text_of zs)) ∙ cut_text ys (lines_front ys zs (lines_following xs (ys ++ zs) (subst AreLines e (lines_cut text)))))

-- among fewer lines
nothing_before : (xs ys : List TextLine) → ◌≡◌ {A = List TextLine} (xs ++ ys) [] → ◌≡◌ {A = List TextLine} xs []
nothing_before [] ys e = refl
nothing_before (x ∷ xs) ys e = absurd (no_lines x (xs ++ ys) e)

pub knows_front : (ls xs ys : List TextLine) (marks : Option (Vec Bool)) → ls ≡ xs ++ ys → KnowsNames ls marks → KnowsNames xs marks
knows_front ls xs ys None e h = nothing_before xs ys (sym e ∙ h)
knows_front ls xs ys (Some marks) e h = (h.0, λ name none. count_front (starts_named name) ls xs ys e (h.1 name none))

pub has_marks : (ls : List TextLine) (marks : Option (Vec Bool)) → KnowsNames ls marks → HasMarks marks
has_marks ls None h = tt
has_marks ls (Some marks) h = h.0

pub none_named : (ls : List TextLine) (name : List ℕ) (marks : Option (Vec Bool)) → KnowsNames ls marks → may_have marks name ≡ false → length (filter (starts_named name) ls) ≡ 0
none_named ls name None h e = ap (λ l. length (filter (starts_named name) l)) h
none_named ls name (Some marks) h e = h.1 name e

-- in more bytes
more_named : (name : List ℕ) (text : List ℕ) (xs ys us vs : List TextLine) (known bytes : ℕ) → Overlap xs ys us vs → cut text ≡ xs ++ ys → IsRun false ys → size xs ≡ known → size us ≡ bytes → length (filter (starts_named name) xs) ≡ 0
    → length (filter (is_named name) (fields_of (fields_from false (cut (take (bytes - known) (drop known text)))))) ≡ 0 → length (filter (starts_named name) us) ≡ 0
more_named name text xs ys us vs known bytes (inr p) e r k b h m = count_front (starts_named name) xs us p.0 p.1 h
more_named name text xs ys us vs known bytes (inl p) e r k b h m =
    let zs = p.0 in
    let whole : cut text ≡ xs ++ (zs ++ vs) = e ∙ ap (λ ls. xs ++ ls) p.2 in
    let run : IsRun false zs = run_front false zs vs (subst (IsRun false) p.2 r) in
    let long : bytes - known ≡ size zs = omega (arith, k, b, ap size p.1, size_append xs zs) in
    let lines : cut (take (bytes - known) (drop known text)) ≡ zs = ap (λ n. cut (take n (drop known text))) long ∙ (ap (λ n. cut (take (size zs) (drop n text))) (sym k) ∙ cut_between text xs zs vs whole) in
    let fields : fields_of (fields_from false (cut (take (bytes - known) (drop known text)))) ≡ fields_of zs = ap (λ ls. fields_of (fields_from false ls)) lines ∙ ap fields_of (run_all false zs run) in
    let none : length (filter (starts_named name) zs) ≡ 0 = sym (fields_named name zs) ∙ (ap (λ fs. length (filter (is_named name) fs)) (sym fields) ∙ m) in
    omega (arith, ap (λ ls. length (filter (starts_named name) ls)) p.1, count_append (starts_named name) xs zs, h, none)

pub known_with : (text here : List ℕ) (bytes : ℕ) (those these : Vec Bool) (p : BeginsField (cut text) bytes) (q : BeginsField (cut text) (bytes + length here))
    → KnowsNames p.before (Some those) → here ≡ take (length here) (drop bytes text) → AreRead those.items (fields_of (fields_from false (cut here))) [] these.items → 0 < length these.items → KnowsNames q.before (Some these)
known_with text here bytes those these p q h t r some =
    let part : here ≡ take (bytes + length here - bytes) (drop bytes text) = t ∙ ap (λ n. take n (drop bytes text)) (omega arith) in (
      some,
      λ name none.
          (let m = r name none in
          more_named name text p.before p.after q.before q.after bytes (bytes + length here) (overlap p.before p.after q.before q.after (p.whole ∙ sym q.whole)) (sym p.whole) p.run p.takes q.takes (h.1 name m.0)
          (ap (λ xs. length (filter (is_named name) (fields_of (fields_from false (cut xs))))) (sym part) ∙ m.1)),
    )
