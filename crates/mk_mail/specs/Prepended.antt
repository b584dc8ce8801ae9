-- A text put before what fields say (own; the white space of a folded value RFC 5322, 2.2.3, encoded words RFC 2047).
use Rattle.std.specs.Prelude.{◌≡◌, ◌==◌, ◌&&◌, ◌||◌, ◌+◌, ◌-◌, ◌++◌, if◌then◌else◌, ℕ, Bool, true, false, not, List, [], ◌∷◌, drop, length, nat_lt, take, unwrap_or}
use Rattle.std.specs.List.{list_all, prefix_len}
use Rattle.std.specs.Str.{is_utf8}
use Rattle.mk_line.specs.declared.cutting.Ending.{Ending}
use Rattle.mk_line.specs.Ascii.{carriage_return, colon, equals_sign, is_blank, line_feed, question_mark, space}
use Rattle.mk_line.specs.Kinds.{is_name}
use Rattle.mk_line.specs.Lines.{is_nil}
use Rattle.mk_line.specs.Marks.{trimmed}
use Rattle.mk_line.specs.Parting.{following}
use Rattle.mk_code.specs.EncodedWords.{has_pair, is_shown, words_encoded}

-- a text that goes before what the fields of a name say
pub record PlainPrepend : Type 0 where
  pub name : List ℕ
  pub text : List ℕ

-- a byte that ends a line
abbrev pub is_break : ℕ → Bool
is_break byte = byte == carriage_return || byte == line_feed

-- a byte of white space, also of a fold (RFC 5322, 2.2.3)
abbrev pub is_white : ℕ → Bool
is_white byte = is_blank byte || is_break byte

-- no byte ends a line
abbrev pub is_one_line : List ℕ → Bool
is_one_line text = list_all (λ byte. not (is_break byte)) text

-- a text that may be put before the values of fields: it isn't empty, and is one line
abbrev pub is_prepend : PlainPrepend → Bool
is_prepend p = is_name p.name && (not (is_nil p.text) && is_one_line p.text)

-- a text that stays as it is: it is printable ASCII, and nothing in it begins like an encoded word
abbrev pub is_plain : List ℕ → Bool
is_plain text = list_all is_shown text && not (has_pair equals_sign question_mark text)

-- a text that isn't plain needs encoded words, where it is UTF-8
abbrev pub needs_words : List ℕ → Bool
needs_words text = is_utf8 text && not (is_plain text)

-- where a value begins to say something: after its white space, or where nothing else is in it, after the blanks of its first line
abbrev pub said_at : List ℕ → ℕ
said_at value = if prefix_len is_white value == length value then prefix_len is_blank value else prefix_len is_white value

-- what follows the colon of a field
abbrev pub value_of : List ℕ → List ℕ
value_of field = unwrap_or (following colon field) []

-- where a field begins to say something
abbrev pub text_place : List ℕ → ℕ
text_place field = length field - length (value_of field) + said_at (value_of field)

-- a value that begins like an encoded word (RFC 2047, 2)
abbrev pub begins_word : List ℕ → Bool
begins_word [] = false
begins_word (byte ∷ []) = false
begins_word (byte ∷ next ∷ bytes) = byte == equals_sign && next == question_mark

-- the last byte is a blank
abbrev pub ends_blank : List ℕ → Bool
ends_blank text = nat_lt (length (trimmed text)) (length text)

-- the blanks that a text ends with, or a space where it ends with none
abbrev pub gap_after : List ℕ → List ℕ
gap_after text = if ends_blank text then drop (length (trimmed text)) text else space ∷ []

-- a text before an encoded word: a blank stands between them, which isn't shown between two encoded words (RFC 2047, 6.2)
abbrev pub before_word : Ending → List ℕ → List ℕ
before_word eol text =
    if needs_words text then words_encoded eol text ++ space ∷ [] else (if ends_blank text then text else text ++ space ∷ [])

-- a text before any other value: a blank after an encoded word is shown, so the text's own blanks stand there (RFC 2047, 5)
abbrev pub before_text : Ending → List ℕ → List ℕ
before_text eol text = if needs_words (trimmed text) then words_encoded eol (trimmed text) ++ gap_after text else text

-- what is put before a value
abbrev pub text_before : Ending → List ℕ → List ℕ → List ℕ
text_before eol text value = if begins_word value then before_word eol text else before_text eol text

-- a field with a text before what it says
abbrev pub prepended : Ending → List ℕ → List ℕ → List ℕ
prepended eol text field =
    take (text_place field) field ++ (text_before eol text (drop (text_place field) field) ++ drop (text_place field) field)

-- a field, and the same field with bytes put in after its colon and white space: all other bytes stay
pub record IsPutIn (field made : List ℕ) : Type 0 where
  pub front : List ℕ
  pub put : List ℕ
  pub back : List ℕ
  pub was : field ≡ front ++ back
  pub is : made ≡ front ++ (put ++ back)
  pub white : list_all is_white (value_of front) ≡ true
