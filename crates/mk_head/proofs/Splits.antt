-- Nothing is lost in a split: the head's lines and what follows them are all lines.
use Rattle.std.proofs.Common.{◌≡◌, Bool, true, false, List, [], ◌∷◌, ◌++◌, refl, ap, ◌∙◌, append_assoc, inl, inr}
use Rattle.std.proofs.lemmas.Bool.{cases_Bool}
use Rattle.mk_line.specs.Lines.{TextLine}
use Rattle.mk_head.specs.Split.{is_empty, belongs, fields_from, rest_from, separator_of, body_of, head_of, head_lines, after_head}
use Rattle.std.specs.Option.{option_to_list}

pub fields_rest : (inside : Bool) (ls : List TextLine) → fields_from inside ls ++ rest_from inside ls ≡ ls
fields_rest inside [] = refl
fields_rest inside (l ∷ ls) =
    elim (cases_Bool (belongs inside l)) [
      | inl h ↦ rw h (ap (λ xs. l ∷ xs) (fields_rest true ls))
      | inr h ↦ rw h refl
    ]

pub separator_body : (ls : List TextLine) → option_to_list (separator_of ls) ++ body_of ls ≡ ls
separator_body [] = refl
separator_body (l ∷ ls) =
    elim (cases_Bool (is_empty l)) [
      | inl h ↦ rw h refl
      | inr h ↦ rw h refl
    ]

pub head_body : (ls : List TextLine) → head_lines (head_of ls) ++ after_head ls ≡ ls
head_body ls =
    append_assoc (fields_from false ls) (option_to_list (separator_of (rest_from false ls))) (body_of (rest_from false ls))
    ∙ (ap (λ xs. fields_from false ls ++ xs) (separator_body (rest_from false ls)) ∙ fields_rest false ls)
