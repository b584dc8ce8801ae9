-- A head and the lines after it, apart, are read as they are; and what is read is apart.
use Rattle.std.proofs.Common.{◌≡◌, ◌&&◌, ◌||◌, ◌++◌, ℕ, Bool, true, false, Option, None, Some, List, [], ◌∷◌, refl, ap, sym, ◌∙◌, inl, inr, append_assoc}
use Rattle.std.proofs.lemmas.Bool.{cases_Bool}
use Rattle.mk_line.specs.Lines.{TextLine, is_nil}
use Rattle.mk_line.specs.Kinds.{is_field_start, is_continuation}
use Rattle.mk_head.specs.Split.{is_empty, belongs, fields_from, rest_from, separator_of, body_of, head_lines, Head, head_of, after_head}
use Rattle.std.specs.Option.{option_to_list}
use Rattle.mk_head.specs.Splits.{IsRun, Follows, IsSplit}
use Rattle.std.specs.Prelude.{not}

or_false : (a : Bool) → (a || false) ≡ a
or_false true = refl
or_false false = refl

or_true : (a : Bool) → (a || true) ≡ true
or_true true = refl
or_true false = refl

empty_content : (inside : Bool) (content : List ℕ) → is_nil content ≡ true → (is_field_start content || (inside && is_continuation content)) ≡ false
empty_content true [] h = refl
empty_content false [] h = refl
empty_content inside (b ∷ content) h = cc

-- an empty line belongs to no field
empty_line : (inside : Bool) (l : TextLine) → is_empty l ≡ true → belongs inside l ≡ false
empty_line inside l h = empty_content inside l.content h

-- what follows the fields of a head
head_passed : (inside : Bool) (o : Option TextLine) (ls : List TextLine) → Follows inside o ls → (fields_from inside (option_to_list o ++ ls) ≡ []) × (rest_from inside (option_to_list o ++ ls) ≡ option_to_list o ++ ls)
head_passed inside (Some l) ls h = (rw (empty_line inside l h) refl, rw (empty_line inside l h) refl)
head_passed inside None [] h = (refl, refl)
head_passed inside None (l ∷ ls) h = (rw h.0 refl, rw h.0 refl)

run_read : (inside : Bool) (fs rest : List TextLine) → IsRun inside fs → fields_from (inside || not (is_nil fs)) rest ≡ [] → rest_from (inside || not (is_nil fs)) rest ≡ rest → (fields_from inside (fs ++ rest) ≡ fs) × (rest_from inside (fs ++ rest) ≡ rest)
run_read inside [] rest h f r = (ap (λ i. fields_from i rest) (sym (or_false inside)) ∙ f, ap (λ i. rest_from i rest) (sym (or_false inside)) ∙ r)
run_read inside (l ∷ fs) rest h f r =
    let q = run_read true fs rest h.1 (ap (λ i. fields_from i rest) (sym (or_true inside)) ∙ f) (ap (λ i. rest_from i rest) (sym (or_true inside)) ∙ r) in
    (rw h.0 (ap (λ xs. l ∷ xs) q.0), rw h.0 q.1)

-- the separator and the body of what follows
parts_read : (inside : Bool) (o : Option TextLine) (ls : List TextLine) → Follows inside o ls → (separator_of (option_to_list o ++ ls) ≡ o) × (body_of (option_to_list o ++ ls) ≡ ls)
parts_read inside (Some l) ls h = (rw h refl, rw h refl)
parts_read inside None [] h = (refl, refl)
parts_read inside None (l ∷ ls) h = (rw h.1 refl, rw h.1 refl)

pub splits_read : (h : Head) (ls : List TextLine) → IsSplit h ls → (head_of (head_lines h ++ ls) ≡ h) × (after_head (head_lines h ++ ls) ≡ ls)
splits_read h ls s =
    let a = head_passed (not (is_nil h.fields)) h.separator ls s.next in
    let q = run_read false h.fields (option_to_list h.separator ++ ls) s.run a.0 a.1 in
    let p = parts_read (not (is_nil h.fields)) h.separator ls s.next in
    let whole : head_lines h ++ ls ≡ h.fields ++ (option_to_list h.separator ++ ls) = append_assoc h.fields (option_to_list h.separator) ls in (
      (λ i. record { fields = (ap (fields_from false) whole ∙ q.0) i; separator = (ap separator_of (ap (rest_from false) whole ∙ q.1) ∙ p.0) i }),
      ap body_of (ap (rest_from false) whole ∙ q.1) ∙ p.1,
    )

-- what is read is apart
run_of : (inside : Bool) (ls : List TextLine) → IsRun inside (fields_from inside ls)
run_of inside [] = tt
run_of inside (l ∷ ls) =
    elim (cases_Bool (belongs inside l)) [
      | inl h ↦ rw h (h, run_of true ls)
      | inr h ↦ rw h tt
    ]

rest_stops : (inside : Bool) (ls : List TextLine) → fields_from (inside || not (is_nil (fields_from inside ls))) (rest_from inside ls) ≡ []
rest_stops inside [] = refl
rest_stops inside (l ∷ ls) =
    elim (cases_Bool (belongs inside l)) [
      | inl h ↦ rw (h, or_true inside) (rest_stops true ls)
      | inr h ↦ rw (h, or_false inside) (rw h refl)
    ]

some_nil : (l : TextLine) (ls : List TextLine) → l ∷ ls ≡ [] → ⊥
some_nil l ls e = cc

none_belongs : (inside : Bool) (l : TextLine) (ls : List TextLine) → fields_from inside (l ∷ ls) ≡ [] → belongs inside l ≡ false
none_belongs inside l ls h =
    elim (cases_Bool (belongs inside l)) [
      | inl b ↦ absurd (some_nil l (fields_from true ls) (rw b at h))
      | inr b ↦ b
    ]

-- lines of which the first belongs to no field
follows_of : (inside : Bool) (ls : List TextLine) → fields_from inside ls ≡ [] → Follows inside (separator_of ls) (body_of ls)
follows_of inside [] h = tt
follows_of inside (l ∷ ls) h =
    elim (cases_Bool (is_empty l)) [
      | inl e ↦ rw e e
      | inr e ↦ rw e (none_belongs inside l ls h, e)
    ]

pub reads_split : (ls : List TextLine) → IsSplit (head_of ls) (after_head ls)
reads_split ls = record { run = run_of false ls; next = follows_of (not (is_nil (fields_from false ls))) (rest_from false ls) (rest_stops false ls) }
