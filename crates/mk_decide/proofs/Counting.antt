-- The k-th field of a name among lines is the k-th such field of the header; a name is what stands before what is kept.
use Rattle.std.proofs.Common.{IfSome, ◌≡◌, ◌+◌, ◌++◌, if◌then◌else◌, ℕ, zero, suc, true, not, Option, None, Some, List, [], ◌∷◌, refl, ap, sym, ◌∙◌, inl, inr, take, filter, arith}
use Rattle.std.proofs.lemmas.Bool.{cases_Bool}
use Rattle.std.specs.Option.{option_map}
use Rattle.std.specs.List.{list_all, prefix_len}
use Rattle.mk_line.specs.Ascii.{is_name_byte}
use Rattle.mk_line.specs.Lines.{TextLine, is_nil}
use Rattle.mk_line.specs.Kinds.{is_past_blanks_colon}
use Rattle.mk_head.specs.Split.{is_start}
use Rattle.mk_head.specs.Fields.{FieldText, field_text, fields_of, is_named, counted}
use Rattle.mk_decide.specs.FieldEdits.{starts_named, Found, found_after, find, field_at, after_name}
use Rattle.mk_decide.specs.EditLaws.{FieldsAreCounted, FieldsAreApart, NamesAreReplaced}
use Rattle.mk_decide.proofs.Runs.{FoundIn, field_is}
use Rattle.mk_decide.proofs.Renaming.{both, start_past, past_name}

abbrev text_found : Option Found → Option FieldText
text_found o = option_map (λ (f : Found). field_text f.start f.more) o

after_same : (l : TextLine) (o : Option Found) → text_found (found_after l o) ≡ text_found o
after_same l None = refl
after_same l (Some f) = refl

find_counted : (name : List ℕ) (k : ℕ) (ls : List TextLine) → text_found (find (starts_named name) k ls) ≡ counted (suc k) (filter (is_named name) (fields_of ls))
find_counted name k [] = refl
find_counted name zero (l ∷ ls) =
    elim (cases_Bool (is_start l)) [
      | inl s ↦
          elim (cases_Bool (is_named name (field_text l []))) [
            | inl n ↦ rw (s, n) refl
            | inr n ↦ rw (s, n) (after_same l (find (starts_named name) zero ls) ∙ find_counted name zero ls)
          ]
      | inr s ↦ rw s (after_same l (find (starts_named name) zero ls) ∙ find_counted name zero ls)
    ]
find_counted name (suc k) (l ∷ ls) =
    after_same l (find (starts_named name) (if starts_named name l then k else suc k) ls)
    ∙ (elim (cases_Bool (is_start l)) [
      | inl s ↦
          elim (cases_Bool (is_named name (field_text l []))) [
            | inl n ↦ rw (s, n) (find_counted name k ls)
            | inr n ↦ rw (s, n) (find_counted name (suc k) ls)
          ]
      | inr s ↦ rw s (find_counted name (suc k) ls)
    ])

none_counted : {X : Type 0} (xs : List X) → counted zero xs ≡ None
none_counted [] = refl
none_counted (x ∷ xs) = refl

pub counted_lem : FieldsAreCounted
counted_lem name zero fields = sym (none_counted (filter (is_named name) (fields_of fields)))
counted_lem name (suc k) fields = find_counted name k fields

abbrev IsApart : List TextLine → Option Found → Type 0
IsApart ls o = IfSome o (λ (f : Found). f.before ++ (f.start ∷ (f.more ++ f.after)) ≡ ls)

apart_by : (ls : List TextLine) (o : Option Found) → FoundIn ls o → IsApart ls o
apart_by ls None h = tt
apart_by ls (Some f) h = h.whole

pub apart_lem : FieldsAreApart
apart_lem name k fields = apart_by fields (field_at name k fields) (field_is name k fields)

-- names
one_more : (n : ℕ) → 1 + n ≡ suc n
one_more n = omega arith

pub name_before : (cs : List ℕ) → take (prefix_len is_name_byte cs) cs ++ after_name cs ≡ cs
name_before [] = refl
name_before (c ∷ cs) =
    elim (cases_Bool (is_name_byte c)) [
      | inl n ↦ rw (n, one_more (prefix_len is_name_byte cs)) (ap (λ xs. c ∷ xs) (name_before cs))
      | inr n ↦ rw n refl
    ]

name_taken : (to rest : List ℕ) → list_all is_name_byte to ≡ true → is_past_blanks_colon rest ≡ true → take (prefix_len is_name_byte (to ++ rest)) (to ++ rest) ≡ to
name_taken [] [] n h = refl
name_taken [] (c ∷ cs) n h = rw (past_name c cs h) refl
name_taken (c ∷ to) rest n h =
    let p = both (is_name_byte c) (list_all is_name_byte to) n in
    rw (p.0, one_more (prefix_len is_name_byte (to ++ rest))) (ap (λ xs. c ∷ xs) (name_taken to rest p.1 h))

name_left : (to rest : List ℕ) → list_all is_name_byte to ≡ true → is_past_blanks_colon rest ≡ true → after_name (to ++ rest) ≡ rest
name_left [] [] n h = refl
name_left [] (c ∷ cs) n h = rw (past_name c cs h) refl
name_left (c ∷ to) rest n h = let p = both (is_name_byte c) (list_all is_name_byte to) n in rw p.0 (name_left to rest p.1 h)

pub names_lem : NamesAreReplaced
names_lem to l n s =
    let bytes = (both (not (is_nil to)) (list_all is_name_byte to) n).1 in
    let past = start_past l.content s in
    (name_taken to (after_name l.content) bytes past, name_left to (after_name l.content) bytes past, name_before l.content)
