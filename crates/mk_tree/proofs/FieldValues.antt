-- The value of a field by its lines, and among the fields one by one.
use Rattle.std.proofs.Common.{◌≡◌, ℕ, Bool, true, false, Option, None, Some, List, [], ◌∷◌, refl, ap, sym, subst}
use Rattle.mk_line.specs.Lines.{TextLine, AreLines, text_of, cut}
use Rattle.mk_line.proofs.Cuts.{cut_text, lines_cut}
use Rattle.mk_head.specs.Split.{is_start, fields_from, rest_from}
use Rattle.mk_head.specs.Fields.{FieldText, continuations, field_text, fields_of, is_named}
use Rattle.mk_head.specs.Unfolding.{value_in}
use Rattle.mk_head.specs.Types.{field_value}
use Rattle.mk_head.proofs.Splits.{fields_rest}
use Rattle.mk_head.proofs.FieldRuns.{after_more, more_after}
use Rattle.std.specs.Option.{is_some}
use Rattle.mk_head.specs.declared.fields.Field.{Field}
use Rattle.mk_tree.specs.inner.Said.{first_value, value_said, said_first}
use Rattle.mk_tree.proofs.Heads.{lines_front}

raw_lines : (l : TextLine) (ls : List TextLine) → AreLines (l ∷ ls) → cut (text_of (l ∷ continuations ls)) ≡ l ∷ continuations ls
raw_lines l ls h = cut_text (l ∷ continuations ls) (lines_front (l ∷ continuations ls) (after_more ls) (subst (λ xs. AreLines (l ∷ xs)) (sym (more_after ls)) h))

value_step : (name : List ℕ) (l : TextLine) (ls : List TextLine) (t u : Bool) → is_start l ≡ t → is_named name (field_text l []) ≡ u → AreLines (l ∷ ls) → field_value name ls ≡ first_value name (fields_of ls) → field_value name (l ∷ ls) ≡ first_value name (fields_of (l ∷ ls))
value_step name l ls false u e f h k = rw e k
value_step name l ls true false e f h k = rw (e, f) k
value_step name l ls true true e f h k = rw (e, f) (ap (λ xs. Some (value_in xs)) (sym (raw_lines l ls h)))

value_first : (name : List ℕ) (ls : List TextLine) → AreLines ls → field_value name ls ≡ first_value name (fields_of ls)
value_first name [] h = refl
value_first name (l ∷ ls) h = value_step name l ls (is_start l) (is_named name (field_text l [])) refl refl h (value_first name ls h.2)

pub value_among : (name text : List ℕ) → field_value name (fields_from false (cut text)) ≡ first_value name (fields_of (fields_from false (cut text)))
value_among name text = value_first name (fields_from false (cut text)) (lines_front (fields_from false (cut text)) (rest_from false (cut text)) (subst AreLines (sym (fields_rest false (cut text))) (lines_cut text)))

pub said_by_found : (name : List ℕ) (found : Option Field) (fields : List FieldText) → is_some found ≡ true → value_said found ≡ said_first name found fields
said_by_found name None fields h = cc
said_by_found name (Some field) fields h = refl
