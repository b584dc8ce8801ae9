-- Names of leaves in the letters of Unicode, where their fields say a text (own).
use Rattle.std.specs.Prelude.{◌==◌, ◌||◌, ◌-◌, if◌then◌else◌, ℕ, Bool, true, false, nat_le, Option, None, Some, List, [], ◌∷◌, codes, map, encode_utf8_all}
use Rattle.std.specs.Char.{len_utf8}
use Rattle.std.specs.Char.Unicode.Alphabetic.{is_alphabetic}
use Rattle.std.specs.Char.Unicode.Numeric.{is_numeric}
use Rattle.std.specs.List.{after_last, flat_map}
use Rattle.std.specs.Option.{option_or}
use Rattle.std.specs.Str.{chars}
use Rattle.mk_line.specs.Ascii.{full_stop, hyphen, underscore}
use Rattle.mk_head.specs.Values.{MediaType, content_type_of}
use Rattle.mk_head.specs.Types.{field_value}
use Rattle.mk_param.specs.Said.{said_text}
use Rattle.mk_tree.specs.declared.shapes.Kind.{Kind}
use Rattle.mk_tree.specs.declared.shapes.Kind.TheVariants.{Leaf, Multi, Message}
use Rattle.mk_tree.specs.Tree.{field_lines}
use Rattle.mk_tree.specs.Forms.{kind_in}
use Rattle.mk_tree.specs.Sections.{Placed}
use Rattle.mk_tree.specs.Documents.{Document}
use Rattle.mk_view.specs.declared.storing.Storing.{Storing}
use Rattle.mk_view.specs.declared.text_names.NameForm.{NameForm}
use Rattle.mk_view.specs.declared.text_names.NameForm.TheVariants.{Plain, Utf8}
use Rattle.mk_view.specs.ContentIds.{content_id}
use Rattle.mk_view.specs.Listed.{Listed, listed}
use Rattle.mk_view.specs.Listing.{type_of}
use Rattle.mk_view.specs.FileNames.{Named, is_divider, is_stored_by, led, most_bytes, name_by, name_or, part_name, raw_name}

-- the text that a disposition says for its parameter, where there is one
abbrev pub disposed_text : Option (List ℕ) → Option (List ℕ)
disposed_text None = None
disposed_text (Some value) = said_text (codes "filename") (content_type_of value).params

-- the text that a section's fields say: for `filename` of Content-Disposition, else for `name` of Content-Type
abbrev pub text_name : Placed → Option (List ℕ)
text_name p = option_or (disposed_text (field_value (codes "Content-Disposition") (field_lines p.entity))) (said_text (codes "name") (type_of p).params)

-- the text that counts in a form of names
abbrev pub text_in : NameForm → Placed → Option (List ℕ)
text_in Plain p = None
text_in Utf8 p = text_name p

-- letters and digits of Unicode, dots, underscores and hyphens stay in a name
abbrev pub is_plain_character : ℕ → Bool
is_plain_character c = (is_alphabetic c || is_numeric c) || (c == full_stop || c == underscore || c == hyphen)

-- a character, or `_` for one that no name may have
abbrev pub plain_character : ℕ → ℕ
plain_character c = if is_plain_character c then c else underscore

-- the characters at the start that have no more bytes than there is room for
abbrev pub fitting : ℕ → List ℕ → List ℕ
fitting room [] = []
fitting room (c ∷ cs) = if nat_le (len_utf8 c) room then c ∷ fitting (room - len_utf8 c) cs else []

-- the characters that are left of those of a name that a message says
abbrev pub kept_characters : List ℕ → List ℕ
kept_characters said = fitting most_bytes (led (map plain_character (after_last is_divider said)))

-- what is left of a text that a message says as a name
abbrev pub cleaned_text : List ℕ → List ℕ
cleaned_text text = encode_utf8_all (kept_characters (chars text))

-- the name that a section would get by itself: from the text that counts, else from the bytes of its name
abbrev pub named_by : List ℕ → Option (List ℕ) → Option (List ℕ) → List ℕ
named_by path None raw = name_by path raw
named_by path (Some text) raw = name_or (part_name path) (cleaned_text text)

-- what is stored by default: leaves, with plain names, and texts without a name only where they are wanted
abbrev pub plain_storing : Bool → Storing
plain_storing texts = record { form = Plain; texts = texts; messages = false; content_ids = false }

-- the id by which a section is named, where sections are named by their ids
abbrev pub naming_id : Bool → Placed → Option (List ℕ)
naming_id false p = None
naming_id true p = content_id p

-- the text that counts as the name of a section: none where it is named by its id
abbrev pub name_text : Option (List ℕ) → NameForm → Placed → Option (List ℕ)
name_text None form p = text_in form p
name_text (Some id) form p = None

-- the bytes that count: the id by which it is named, else those that its fields say as its name
abbrev pub name_bytes : Option (List ℕ) → Placed → Option (List ℕ)
name_bytes id p = option_or id (raw_name p)

-- a section at a path is stored under the name that it would get by itself, or it isn't
abbrev pub stored_if : Bool → List ℕ → Option (List ℕ) → Option (List ℕ) → List Named
stored_if true path text raw = (path, named_by path text raw) ∷ []
stored_if false path text raw = []

-- leaves are stored, and messages where they are wanted; a leaf has a name where there is a text or a name of bytes
abbrev pub stored_named : Storing → Kind → List ℕ → MediaType → Option (List ℕ) → Option (List ℕ) → List Named
stored_named storing Leaf path t text raw = stored_if (is_stored_by storing.texts t (option_or text raw)) path text raw
stored_named storing Multi path t text raw = []
stored_named storing Message path t text raw = stored_if storing.messages path text raw

-- the path of a listed section and the name that it would get by itself; none where it isn't stored
unfoldable pub stored_in : Storing → Listed → List Named
stored_in storing s =
    let id = naming_id storing.content_ids s.section in
    stored_named storing (kind_in s.section.entity) s.path (type_of s.section) (name_text id storing.form s.section) (name_bytes id s.section)

-- the sections that are stored, in the document's order, with the names that they would get by themselves
abbrev pub all_stored_in : Storing → Document → List Named
all_stored_in storing t = flat_map (stored_in storing) (listed t)
