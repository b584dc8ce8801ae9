-- Fields whose values go in as encoded words (RFC 2047; which values do is own).
use Rattle.std.specs.Prelude.{◌||◌, ◌++◌, if◌then◌else◌, ℕ, Bool, true, false, not, Option, Some, List, [], ◌∷◌, codes, drop, is_some, take}
use Rattle.std.specs.List.{list_any}
use Rattle.std.specs.Option.{option_map_or}
use Rattle.mk_line.specs.declared.cutting.Ending.{Ending}
use Rattle.mk_line.specs.declared.cutting.Ending.TheVariants.{Lf}
use Rattle.mk_line.specs.Ascii.{colon}
use Rattle.mk_line.specs.Marks.{trimmed}
use Rattle.mk_head.specs.Values.{stripped}
use Rattle.mk_code.specs.EncodedWords.{words_encoded}
use Rattle.mk_mail.specs.Letters.{same_name}
use Rattle.mk_mail.specs.Prepended.{needs_words}
use Rattle.mk_script.specs.Paths.{parted}
use Rattle.mk_wording.specs.Lists.{worded_list, worded_parameters}
use Rattle.mk_wording.specs.Stretches.{worded_text}
use Rattle.mk_wording.specs.declared.names.FieldKind.{FieldKind}
use Rattle.mk_wording.specs.declared.names.FieldKind.TheVariants.{Addresses, Parameters, Comments, Text}
use Rattle.mk_wording.specs.declared.lists.ListKind.TheVariants.{Addresses as InAddresses}
use Rattle.mk_wording.specs.declared.stretches.Outside.TheVariants.{Ascii}

-- the fields that hold addresses (RFC 5322, 3.6.2 and 3.6.3; RFC 8098, 2.1)
abbrev pub address_names : List (List ℕ)
address_names =
    codes "from" ∷ codes "sender" ∷ codes "reply-to" ∷ codes "to" ∷ codes "cc" ∷ codes "bcc" ∷ codes "disposition-notification-to" ∷ []

-- the fields that have parameters (RFC 2045, 5.1; RFC 2183, 2)
abbrev pub parameter_names : List (List ℕ)
parameter_names = codes "content-type" ∷ codes "content-disposition" ∷ []

-- other fields in which encoded words stand in comments alone (RFC 5322, 3.6.1, 3.6.4 and 3.6.7; RFC 2045, 4, 6 and 7)
abbrev pub comment_names : List (List ℕ)
comment_names =
    codes "date" ∷ codes "message-id" ∷ codes "in-reply-to" ∷ codes "references" ∷ codes "received" ∷ codes "return-path" ∷ codes "mime-version" ∷ codes "content-transfer-encoding" ∷ codes "content-id" ∷ []

-- a name without `Resent-` at its start (RFC 5322, 3.6.6)
abbrev pub without_resent : List ℕ → List ℕ
without_resent name = if same_name (codes "resent-") (take 7 name) then drop 7 name else name

-- one of some names, in any case
abbrev pub is_one_of_names : List (List ℕ) → List ℕ → Bool
is_one_of_names names name = list_any (same_name name) names

-- what the value of a field of a name is
abbrev pub field_kind : List ℕ → FieldKind
field_kind name =
    if is_one_of_names address_names (without_resent name) then Addresses
    else (if is_one_of_names parameter_names name then Parameters
    else (if is_one_of_names comment_names (without_resent name) then Comments else Text))

-- not text
abbrev pub holds_structure : FieldKind → Bool
holds_structure Addresses = true
holds_structure Parameters = true
holds_structure Comments = true
holds_structure Text = false

-- a field of this name has a structured value, in which encoded words stand in some places alone
abbrev pub is_structured : List ℕ → Bool
is_structured name = holds_structure (field_kind name)

-- a value in encoded words; nothing where it needs them in a place that can't have them
abbrev pub worded_value : FieldKind → Ending → List ℕ → Option (List ℕ)
worded_value Addresses eol value = worded_list InAddresses eol value
worded_value Parameters eol value = worded_parameters eol value
worded_value Comments eol value = worded_text Ascii eol value
worded_value Text eol value = Some (words_encoded eol value)

-- a field of a name and a value that was written, or as it is given, where its value needs no encoded words or couldn't be written
abbrev pub worded_field_of : Ending → List ℕ → List ℕ → List ℕ → List ℕ
worded_field_of eol field name value =
    if needs_words value then option_map_or (λ worded. name ++ (codes ": " ++ worded)) (worded_value (field_kind name) eol value) field else field

-- a value that can go into a field of a name as encoded words, or needs none
abbrev pub value_takes_words : List ℕ → List ℕ → Bool
value_takes_words name value = not (needs_words value) || is_some (worded_value (field_kind name) Lf value)

-- a field that `--encode` can write: what needs encoded words stands where they may
abbrev pub takes_words : List ℕ → Bool
takes_words field = option_map_or (λ p. value_takes_words (trimmed p.0) (stripped p.1)) (parted colon field) true

-- a field whose value is in encoded words, where it needs them (`--encode`)
abbrev pub worded_field : Ending → List ℕ → List ℕ
worded_field eol field = option_map_or (λ p. worded_field_of eol field (trimmed p.0) (stripped p.1)) (parted colon field) field
