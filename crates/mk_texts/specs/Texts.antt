-- What fields say, and other texts in the places of what a pattern matches in it (own; special characters RFC 5322, 3.2.3; encoded
-- words RFC 2047).
use Rattle.std.specs.Prelude.{◌&&◌, ◌++◌, if◌then◌else◌, ℕ, Bool, true, false, Option, List, [], codes, filter, is_some, nat_eq, take}
use Rattle.std.specs.List.{ends_with}
use Rattle.std.specs.Option.{option_map_or}
use Rattle.std.specs.Str.{bytes_eq}
use Rattle.mk_line.specs.declared.cutting.Ending.{Ending}
use Rattle.mk_line.specs.Ascii.{colon}
use Rattle.mk_line.specs.Marks.{trimmed}
use Rattle.mk_head.specs.Values.{stripped}
use Rattle.mk_code.specs.EncodedWords.{text_decoded, unfolded}
use Rattle.mk_mail.specs.Rules.{FieldChange, Becomes, Goes, Stays}
use Rattle.mk_script.specs.Paths.{parted}
use Rattle.mk_wording.specs.Scanned.{is_one_of}
use Rattle.mk_wording.specs.Stretches.{are_ascii}
use Rattle.mk_wording.specs.Values.{decoded_value, unbroken}
use Rattle.mk_wording.specs.Wording.{field_kind, worded_field}
use Rattle.mk_wording.specs.declared.names.FieldKind.{FieldKind}
use Rattle.mk_wording.specs.declared.names.FieldKind.TheVariants.{Addresses, Parameters, Comments, Text}
use Rattle.regex.specs.Patterns.{Match, Re, find, find_all}
use Rattle.regex.specs.Replace.{group_bytes, replaced_by}
use Rattle.regex.specs.Templates.{written_after}

-- the special characters of addresses but the full stop, which shows in plain names (RFC 5322, 3.2.3)
abbrev pub address_marks : List ℕ
address_marks = codes "()<>[]:;@\\,\""

-- one of them
abbrev pub is_address_mark : ℕ → Bool
is_address_mark byte = is_one_of address_marks byte

-- those of a text, in their order
abbrev pub marks_of : List ℕ → List ℕ
marks_of text = filter is_address_mark text

-- a value whose encoded words bring no mark in: with them decoded, it has the marks that are written
abbrev pub keeps_marks : List ℕ → Bool
keeps_marks value = bytes_eq (marks_of (text_decoded value)) (marks_of (unfolded value))

-- a value of a kind whose encoded words are read as what they say
abbrev pub reads_words : FieldKind → List ℕ → Bool
reads_words Addresses value = keeps_marks value
reads_words Parameters value = false
reads_words Comments value = false
reads_words Text value = true

-- what the value of a field says, on one line
abbrev pub said_by_value : FieldKind → List ℕ → List ℕ
said_by_value kind value = if reads_words kind value then decoded_value value else unbroken (unfolded value)

-- the line ending that the bytes of a field end with: CR LF, LF or none
abbrev pub line_end : List ℕ → List ℕ
line_end raw = if ends_with nat_eq raw (codes "\r\n") then codes "\r\n" else (if ends_with nat_eq raw (codes "\n") then codes "\n" else [])

-- a field of a name that says a text, without a line ending
abbrev pub plain_field : List ℕ → List ℕ → List ℕ
plain_field name text = name ++ (codes ": " ++ text)

-- the same in encoded words, where it needs them and the field that it replaces is ASCII and has them read
abbrev pub field_written : Ending → List ℕ → FieldKind → List ℕ → List ℕ → List ℕ → List ℕ
field_written eol raw kind name value text =
    if are_ascii raw && reads_words kind value then worded_field eol (plain_field name text) else plain_field name text

-- the field that says a text in the place of a field, whose line ending it has
abbrev pub text_field : Ending → List ℕ → FieldKind → List ℕ → List ℕ → List ℕ → List ℕ
text_field eol raw kind name value text = field_written eol raw kind name value text ++ line_end raw

-- what is put in the place of a match: a text in which `$1` and `${name}` stand for groups; of the first match, or of each
pub record PlainReplacement : Type 0 where
  pub text : List ℕ
  pub each : Bool

-- a rule for the fields of a name: they go where a pattern matches in what they say, or get another text in the place of matches
pub record PlainTextRule : Type 0 where
  pub name : List ℕ
  pub re : Re
  -- the names of its groups
  pub groups : List (Option (List ℕ))
  pub put : Option PlainReplacement

-- the matches that are replaced
abbrev pub put_places : Re → Bool → List ℕ → List Match
put_places re each text = if each then find_all re text else take 1 (find_all re text)

-- a text with a replacement in the place of matches, without the blanks at both ends
abbrev pub text_put : PlainTextRule → PlainReplacement → List ℕ → List ℕ
text_put r p text = stripped (replaced_by (λ m. written_after r.groups (group_bytes text m) p.text 0) text 0 (put_places r.re p.each text))

-- the change to a field that gets another text: none where it is the same text
abbrev pub change_to : List ℕ → List ℕ → List ℕ → FieldChange
change_to old new field = if bytes_eq new old then Stays else Becomes field

-- the change to a field that says a text in which the pattern matches
abbrev pub matched_change : PlainTextRule → Ending → List ℕ → List ℕ → List ℕ → List ℕ → FieldChange
matched_change r eol raw name value text =
    option_map_or (λ p. change_to text (text_put r p text) (text_field eol raw (field_kind name) name value (text_put r p text))) r.put Goes

-- the change to a field of a name and a value
abbrev pub value_change : PlainTextRule → Ending → List ℕ → List ℕ → List ℕ → FieldChange
value_change r eol raw name value =
    if is_some (find r.re (said_by_value (field_kind name) value) 0) then matched_change r eol raw name value (said_by_value (field_kind name) value) else Stays

-- the change to a field: its name stands before the colon, its value after it
abbrev pub text_change : PlainTextRule → Ending → List ℕ → FieldChange
text_change r eol raw = option_map_or (λ p. value_change r eol raw (trimmed p.0) p.1) (parted colon raw) Stays
