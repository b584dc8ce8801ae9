-- The Content- fields of a section and the others: runs, lines, without marks, and what they say of the body.
use Rattle.std.proofs.Common.{◌≡◌, ◌+◌, ◌&&◌, ◌++◌, if◌then◌else◌, ℕ, suc, zero, Bool, true, false, Some, List, [], ◌∷◌, refl, ap, sym, ◌∙◌, subst, inl, inr, codes, take, nat_eq, arith}
use Rattle.std.proofs.lemmas.Bool.{cases_Bool}
use Rattle.std.specs.List.{prefix_len, starts_with}
use Rattle.mk_line.specs.declared.marks.Mark.TheVariants.{No}
use Rattle.mk_line.specs.Ascii.{is_name_byte}
use Rattle.mk_line.specs.Lines.{TextLine}
use Rattle.mk_line.specs.Marks.{trimmed, dashed, mark}
use Rattle.mk_line.proofs.Blanks.{untold}
use Rattle.mk_head.specs.Split.{is_start, is_more, belongs}
use Rattle.mk_head.specs.Splits.{IsRun}
use Rattle.mk_head.specs.Fields.{continuations, name_of, field_text, is_named}
use Rattle.mk_head.specs.Unfolding.{value_in}
use Rattle.mk_head.specs.Values.{lowered}
use Rattle.mk_head.specs.Types.{field_value, header_type, header_encoding, type_by}
use Rattle.std.specs.Option.{option_map_or}
use Rattle.mk_head.proofs.FieldRuns.{more_start}
use Rattle.mk_tree.specs.Cutting.{Unmarked}
use Rattle.mk_tree.specs.Kinds.{kind_of, kind, kind_at}
use Rattle.mk_decide.specs.Wrapping.{is_content_line, content_fields, other_fields}
use Rattle.mk_decide.proofs.WrapNames.{describes_content}
use Rattle.mk_decide.proofs.Openings.{Each}
use Rattle.mk_decide.proofs.Runs.{run_anywhere, start_belongs}
use Rattle.mk_decide.proofs.MarkLines.{more_dashed, first_dashed}
use Rattle.mk_head.specs.Encodings.{encoding_of}
use Rattle.mk_head.specs.declared.encodings.Encoding.TheVariants.{Identity}

-- whatever holds of each line of fields holds of each of both
pub content_each : (inside : Bool) (ls : List TextLine) → Each ls → Each (content_fields inside ls)
content_each inside [] e = tt
content_each inside (l ∷ ls) e =
    elim (cases_Bool (is_content_line inside l)) [
      | inl h ↦ rw h (e.0, content_each true ls e.1)
      | inr h ↦ rw h (content_each false ls e.1)
    ]

pub other_each : (inside : Bool) (ls : List TextLine) → Each ls → Each (other_fields inside ls)
other_each inside [] e = tt
other_each inside (l ∷ ls) e =
    elim (cases_Bool (is_content_line inside l)) [
      | inl h ↦ rw h (other_each true ls e.1)
      | inr h ↦ rw h (e.0, other_each false ls e.1)
    ]

pub content_marks : (b : List ℕ) (inside : Bool) (ls : List TextLine) → Unmarked b ls → Unmarked b (content_fields inside ls)
content_marks b inside [] e = tt
content_marks b inside (l ∷ ls) e =
    elim (cases_Bool (is_content_line inside l)) [
      | inl h ↦ rw h (e.0, content_marks b true ls e.1)
      | inr h ↦ rw h (content_marks b false ls e.1)
    ]

pub other_marks : (b : List ℕ) (inside : Bool) (ls : List TextLine) → Unmarked b ls → Unmarked b (other_fields inside ls)
other_marks b inside [] e = tt
other_marks b inside (l ∷ ls) e =
    elim (cases_Bool (is_content_line inside l)) [
      | inl h ↦ rw h (other_marks b true ls e.1)
      | inr h ↦ rw h (e.0, other_marks b false ls e.1)
    ]

-- a line that is taken from outside such a field begins one; one that is left inside begins another
taken_start : (l : TextLine) → is_content_line false l ≡ true → (is_start l ≡ true) × (describes_content l ≡ true)
taken_start l h =
    elim (cases_Bool (is_start l)) [
      | inl s ↦ (s, rw s at h)
      | inr s ↦ let none : false ≡ true = (rw s at h) in cc none
    ]

left_start : (l : TextLine) → is_content_line true l ≡ false → is_start l ≡ true
left_start l h =
    elim (cases_Bool (is_start l)) [
      | inl s ↦ s
      | inr s ↦ let none : true ≡ false = (rw s at h) in cc none
    ]

-- runs
pub record AreRuns (ls : List TextLine) : Type 0 where
  pub others_out : (inside : Bool) → IsRun inside ls → IsRun inside (other_fields false ls)
  pub others_in : IsRun true ls → IsRun false (other_fields true ls)
  pub content_out : (inside : Bool) → IsRun inside ls → IsRun false (content_fields false ls)
  pub content_in : IsRun true ls → IsRun true (content_fields true ls)

pub are_runs : (ls : List TextLine) → AreRuns ls
are_runs [] = record { others_out = λ i r. tt; others_in = λ r. tt; content_out = λ i r. tt; content_in = λ r. tt }
are_runs (l ∷ ls) =
    let rest = are_runs ls in
    record {
      others_out = λ i r.
          elim (cases_Bool (is_content_line false l)) [
            | inl h ↦ rw h (run_anywhere i (other_fields true ls) (rest.others_in r.1))
            | inr h ↦ rw h (r.0, rest.others_out true r.1)
          ];
      others_in = λ r.
          elim (cases_Bool (is_content_line true l)) [
            | inl h ↦ rw h (rest.others_in r.1)
            | inr h ↦ rw h (start_belongs false l (left_start l h), rest.others_out true r.1)
          ];
      content_out = λ i r.
          elim (cases_Bool (is_content_line false l)) [
            | inl h ↦ rw h (start_belongs false l (taken_start l h).0, rest.content_in r.1)
            | inr h ↦ rw h (rest.content_out true r.1)
          ];
      content_in = λ r.
          elim (cases_Bool (is_content_line true l)) [
            | inl h ↦ rw h (r.0, rest.content_in r.1)
            | inr h ↦ rw h (run_anywhere true (content_fields false ls) (rest.content_out true r.1))
          ];
    }

-- a line that doesn't begin with a hyphen is no mark
pub mark_none : (b cs : List ℕ) → ((x : List ℕ) → trimmed cs ≡ dashed x → ⊥) → mark b cs ≡ No
mark_none b cs h = rw (untold (trimmed cs) (dashed b) (h b), untold (trimmed cs) (dashed b ++ 45 ∷ 45 ∷ []) (h (b ++ 45 ∷ 45 ∷ []))) refl

true_false : {A : Type 0} → true ≡ false → A
true_false e = cc

more_unmarked : (b : List ℕ) (l : TextLine) → is_more l ≡ true → mark b l.content ≡ No
more_unmarked b l h = mark_none b l.content (λ x e. true_false (sym h ∙ (more_dashed l.content x e).0))

one_more : (n : ℕ) → 1 + n ≡ suc n
one_more n = omega arith

hyphen_name : (cs : List ℕ) → starts_with nat_eq (lowered (take (prefix_len is_name_byte (45 ∷ cs)) (45 ∷ cs))) (codes "content-") ≡ false
hyphen_name cs = rw (one_more (prefix_len is_name_byte cs)) refl

content_hyphen : (cs : List ℕ) (x : List ℕ) → starts_with nat_eq (lowered (take (prefix_len is_name_byte cs) cs)) (codes "content-") ≡ true → trimmed cs ≡ dashed x → ⊥
content_hyphen [] x h e = cc
content_hyphen (c ∷ cs) x h e =
    let first : c ≡ 45 = first_dashed c cs x e in
    true_false (sym (subst (λ d. starts_with nat_eq (lowered (take (prefix_len is_name_byte (d ∷ cs)) (d ∷ cs))) (codes "content-") ≡ true) first h) ∙ hyphen_name cs)

start_unmarked : (b : List ℕ) (l : TextLine) → describes_content l ≡ true → mark b l.content ≡ No
start_unmarked b l h = mark_none b l.content (λ x e. content_hyphen l.content x h e)

-- no line of a Content- field is a mark
more_of : (l : TextLine) → belongs true l ≡ true → is_start l ≡ false → is_more l ≡ true
more_of l h s = rw s at h

taken_unmarked : (b : List ℕ) (l : TextLine) → belongs true l ≡ true → is_content_line true l ≡ true → mark b l.content ≡ No
taken_unmarked b l r h =
    elim (cases_Bool (is_start l)) [
      | inl s ↦ start_unmarked b l (rw s at h)
      | inr s ↦ more_unmarked b l (more_of l r s)
    ]

pub record AreUnmarked (b : List ℕ) (ls : List TextLine) : Type 0 where
  pub out : (inside : Bool) → IsRun inside ls → Unmarked b (content_fields false ls)
  pub within : IsRun true ls → Unmarked b (content_fields true ls)

pub are_unmarked : (b : List ℕ) (ls : List TextLine) → AreUnmarked b ls
are_unmarked b [] = record { out = λ i r. tt; within = λ r. tt }
are_unmarked b (l ∷ ls) =
    let rest = are_unmarked b ls in
    record {
      out = λ i r.
          elim (cases_Bool (is_content_line false l)) [
            | inl h ↦ rw h (start_unmarked b l (taken_start l h).1, rest.within r.1)
            | inr h ↦ rw h (rest.out true r.1)
          ];
      within = λ r.
          elim (cases_Bool (is_content_line true l)) [
            | inl h ↦ rw h (taken_unmarked b l r.0 h, rest.within r.1)
            | inr h ↦ rw h (rest.out true r.1)
          ];
    }

-- a field that is left isn't of a name that begins with Content-
abbrev pub Describes : List ℕ → Type 0
Describes name = starts_with nat_eq (lowered name) (codes "content-") ≡ true

left_by : (name : List ℕ) (l : TextLine) → Describes name → describes_content l ≡ false → is_named name (field_text l []) ≡ false
left_by name l d h = untold (lowered (name_of l)) (lowered name) (λ e. true_false (sym d ∙ (ap (λ cs. starts_with nat_eq cs (codes "content-")) (sym e) ∙ h)))

and_none : (a : Bool) → (a && false) ≡ false
and_none true = refl
and_none false = refl

pub left_named : (inside : Bool) (name : List ℕ) (l : TextLine) → Describes name → is_content_line inside l ≡ false → (is_start l && is_named name (field_text l [])) ≡ false
left_named inside name l d h =
    elim (cases_Bool (is_start l)) [
      | inl s ↦ ap (λ t. is_start l && t) (left_by name l d (rw s at h)) ∙ and_none (is_start l)
      | inr s ↦ rw s refl
    ]

-- its value is after the others
pub skip_others : (name : List ℕ) (inside : Bool) (ls ys : List TextLine) → Describes name → field_value name (other_fields inside ls ++ ys) ≡ field_value name ys
skip_others name inside [] ys d = refl
skip_others name inside (l ∷ ls) ys d =
    elim (cases_Bool (is_content_line inside l)) [
      | inl h ↦ rw h (skip_others name true ls ys d)
      | inr h ↦ rw h (rw (left_named inside name l d h) (skip_others name false ls ys d))
    ]

-- its lines stay together
pub start_more : (l : TextLine) → is_start l ≡ true → is_more l ≡ false
start_more l s =
    elim (cases_Bool (is_more l)) [
      | inl h ↦ true_false (sym s ∙ more_start l h)
      | inr h ↦ h
    ]

none_more : (ls : List TextLine) → continuations (content_fields false ls) ≡ []
none_more [] = refl
none_more (l ∷ ls) =
    elim (cases_Bool (is_content_line false l)) [
      | inl h ↦ rw h (rw (start_more l (taken_start l h).0) refl)
      | inr h ↦ rw h (none_more ls)
    ]

more_taken : (l : TextLine) → is_more l ≡ true → is_content_line true l ≡ true
more_taken l h = rw (more_start l h) refl

same_more : (ls : List TextLine) → continuations (content_fields true ls) ≡ continuations ls
same_more [] = refl
same_more (l ∷ ls) =
    elim (cases_Bool (is_more l)) [
      | inl m ↦ rw (more_taken l m) (rw m (ap (λ xs. l ∷ xs) (same_more ls)))
      | inr m ↦
          elim (cases_Bool (is_content_line true l)) [
            | inl h ↦ rw h (rw m refl)
            | inr h ↦ rw h (rw m (none_more ls))
          ]
    ]

pub content_value : (name : List ℕ) (inside : Bool) (ls : List TextLine) → Describes name → field_value name (content_fields inside ls) ≡ field_value name ls
content_value name inside [] d = refl
content_value name inside (l ∷ ls) d =
    elim (cases_Bool (is_content_line inside l)) [
      | inl h ↦ rw h (ap (λ ms. if is_start l && is_named name (field_text l []) then Some (value_in (l ∷ ms)) else field_value name (content_fields true ls)) (same_more ls)
          ∙ ap (λ o. if is_start l && is_named name (field_text l []) then Some (value_in (l ∷ continuations ls)) else o) (content_value name true ls d))
      | inr h ↦ rw h (content_value name false ls d ∙ sym (ap (λ t. if t then Some (value_in (l ∷ continuations ls)) else field_value name ls) (left_named inside name l d h)))
    ]

-- so they say the same kind
kind_content : (fields : List TextLine) (d : Bool) → kind (content_fields false fields) d ≡ kind fields d
unfolding kind
kind_content fields d =
    ap (λ o. kind_of (type_by d o) (header_encoding (content_fields false fields))) (content_value (codes "Content-Type") false fields refl)
    ∙ ap (λ o. kind_of (header_type d fields) (option_map_or encoding_of o Identity)) (content_value (codes "Content-Transfer-Encoding") false fields refl)

pub content_kind : (n : ℕ) (fields : List TextLine) (d : Bool) → kind_at n (content_fields false fields) d ≡ kind_at n fields d
content_kind zero fields d = refl
content_kind (suc n) fields d = kind_content fields d
