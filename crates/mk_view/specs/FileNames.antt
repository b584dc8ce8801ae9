-- The names under which the leaves of a document are stored as files (own).
use Rattle.std.specs.Option.{option_or}
use Rattle.std.specs.Prelude.{◌==◌, ◌++◌, ◌||◌, if◌then◌else◌, ℕ, Bool, true, not, Option, None, Some, List, [], ◌∷◌, codes, map, take}
use Rattle.std.specs.Char.{is_ascii_alphanumeric}
use Rattle.std.specs.List.{after_last, flat_map}
use Rattle.std.specs.Str.{bytes_eq}
use Rattle.mk_line.specs.Ascii.{hyphen}
use Rattle.mk_line.specs.Lines.{is_nil}
use Rattle.mk_head.specs.Values.{MediaType, content_type_of, param_of}
use Rattle.mk_line.specs.Ascii.{backslash}
use Rattle.mk_head.specs.Types.{field_value}
use Rattle.mk_tree.specs.declared.shapes.Kind.{Kind}
use Rattle.mk_tree.specs.declared.shapes.Kind.TheVariants.{Leaf, Multi, Message}
use Rattle.mk_tree.specs.Tree.{field_lines}
use Rattle.mk_tree.specs.Forms.{kind_in}
use Rattle.mk_tree.specs.Sections.{Placed}
use Rattle.mk_tree.specs.Documents.{Document}
use Rattle.mk_line.specs.Ascii.{full_stop, slash, underscore}
use Rattle.mk_view.specs.Listed.{Listed, listed}
use Rattle.mk_view.specs.Listing.{path_text, type_of}

-- the parameter of a disposition, where there is one
abbrev pub disposed_name : Option (List ℕ) → Option (List ℕ)
disposed_name None = None
disposed_name (Some value) = param_of (codes "filename") (content_type_of value).params

-- the name that a section's fields say: `filename` of Content-Disposition, else `name` of Content-Type
abbrev pub raw_name : Placed → Option (List ℕ)
raw_name p = option_or (disposed_name (field_value (codes "Content-Disposition") (field_lines p.entity))) (param_of (codes "name") (type_of p).params)

-- a slash or a backslash
abbrev pub is_divider : ℕ → Bool
is_divider byte = byte == slash || byte == backslash

-- letters, digits, dots, underscores and hyphens stay in a name, and an underscore stands for any other byte
abbrev pub is_plain_byte : ℕ → Bool
is_plain_byte byte = is_ascii_alphanumeric byte || byte == full_stop || byte == underscore || byte == hyphen

-- a byte, or `_` for one that no name may have
abbrev pub plain : ℕ → ℕ
plain byte = if is_plain_byte byte then byte else underscore

-- the first byte of a name is no full stop and no hyphen
abbrev pub leading : ℕ → ℕ
leading byte = if byte == full_stop || byte == hyphen then underscore else byte

-- bytes of which the first may begin a name
abbrev pub led : List ℕ → List ℕ
led [] = []
led (byte ∷ bytes) = leading byte ∷ bytes

-- how many bytes of a name are kept
abbrev pub most_bytes : ℕ
most_bytes = 100

-- what is left of a name that a message says
abbrev pub cleaned : List ℕ → List ℕ
cleaned raw = take most_bytes (led (map plain (after_last is_divider raw)))

-- the name of a section that has no other
abbrev pub part_name : List ℕ → List ℕ
part_name path = codes "part-" ++ path_text path

-- a name, or another where no byte of it is left
abbrev pub name_or : List ℕ → List ℕ → List ℕ
name_or other name = if is_nil name then other else name

-- the name that a section would get by itself
abbrev pub name_by : List ℕ → Option (List ℕ) → List ℕ
name_by path None = part_name path
name_by path (Some raw) = name_or (part_name path) (cleaned raw)

-- a text that has no name is stored only where texts are wanted
abbrev pub is_stored_by : Bool → MediaType → Option (List ℕ) → Bool
is_stored_by texts t None = texts || not (bytes_eq t.main (codes "text"))
is_stored_by texts t (Some raw) = true

-- a path and a name
abbrev pub Named : Type 0
Named = List ℕ × List ℕ
