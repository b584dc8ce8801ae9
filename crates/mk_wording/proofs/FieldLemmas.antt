-- Fields that were parted at their colon.
use Rattle.std.proofs.Common.{◌≡◌, ◌∙◌, ℕ, List, Some, ap, false, refl, sym}
use Rattle.std.specs.Option.{option_map_or}
use Rattle.std.specs.Prelude.{true}
use Rattle.mk_line.specs.declared.cutting.Ending.{Ending}
use Rattle.mk_line.specs.Ascii.{colon}
use Rattle.mk_line.specs.Marks.{trimmed}
use Rattle.mk_head.specs.Values.{stripped}
use Rattle.mk_script.specs.Paths.{parted}
use Rattle.mk_code.specs.EncodedWords.{words_encoded}
use Rattle.mk_wording.specs.Wording.{field_kind, holds_structure, is_structured, takes_words, value_takes_words, worded_field, worded_field_of, worded_value}
use Rattle.mk_wording.specs.declared.names.FieldKind.{FieldKind}
use Rattle.mk_wording.specs.declared.names.FieldKind.TheVariants.{Addresses, Parameters, Comments, Text}

-- whether it takes words
pub taken : (field name value n v : List ℕ) → parted colon field ≡ Some (name, value) → n ≡ trimmed name → v ≡ stripped value → value_takes_words n v ≡ takes_words field
taken field name value n v p a b = (λ i. value_takes_words (a i) (b i)) ∙ ap (λ o. option_map_or (λ q. value_takes_words (trimmed q.0) (stripped q.1)) o true) (sym p)

-- what it is written as
pub written : (eol : Ending) (field name value n v : List ℕ) → parted colon field ≡ Some (name, value) → n ≡ trimmed name → v ≡ stripped value → worded_field_of eol field n v ≡ worded_field eol field
written eol field name value n v p a b = (λ i. worded_field_of eol field (a i) (b i)) ∙ ap (λ o. option_map_or (λ q. worded_field_of eol field (trimmed q.0) (stripped q.1)) o field) (sym p)

text_value : (kind : FieldKind) (eol : Ending) (value : List ℕ) → holds_structure kind ≡ false → worded_value kind eol value ≡ Some (words_encoded eol value)
text_value Addresses eol value h = cc
text_value Parameters eol value h = cc
text_value Comments eol value h = cc
text_value Text eol value h = refl

-- the value of a field that isn't structured
pub text_written : (eol : Ending) (name value : List ℕ) → is_structured name ≡ false → worded_value (field_kind name) eol value ≡ Some (words_encoded eol value)
text_written eol name value h = text_value (field_kind name) eol value h
