-- The messages of a mailbox as objects of JSON, a line for each (own; RFC 8259).
use Rattle.std.specs.Prelude.{◌==◌, ◌||◌, ◌+◌, ◌++◌, ◌∷◌, [], if◌then◌else◌, ℕ, List, codes, decimal, length, map}
use Rattle.std.specs.Option.{option_map_or}
use Rattle.mk_line.specs.Ascii.{carriage_return, line_feed, space}
use Rattle.mk_line.specs.Lines.{TextLine}
use Rattle.mk_head.specs.Types.{field_value}
use Rattle.mk_head.specs.Values.{stripped}
use Rattle.mk_code.specs.EncodedWords.{text_decoded}
use Rattle.mk_tree.specs.Documents.{tree}
use Rattle.mk_tree.specs.Tree.{field_lines}
use Rattle.mk_messages.specs.MessageLines.{section_count}
use Rattle.mk_json.specs.Strings.{json_string, member_after}

-- a byte of a text on one line: a space in the place of a carriage return or a line feed
abbrev pub spaced : ℕ → ℕ
spaced byte = if byte == carriage_return || byte == line_feed then space else byte

-- what the value of a field says, on one line: its encoded words decoded (RFC 2047), without the blanks at both ends
abbrev pub said_on_line : List ℕ → List ℕ
said_on_line value = stripped (map spaced (text_decoded value))

-- the member of this key: what the first field of a name says, where the fields have it
abbrev pub field_member : List ℕ → List ℕ → List TextLine → List ℕ
field_member key name fields = option_map_or (λ value. member_after key (json_string (said_on_line value))) (field_value name fields) []

-- the members of a message that its fields say (RFC 5322, 3.6.1 to 3.6.5)
abbrev pub said_members : List TextLine → List ℕ
said_members fields =
    field_member (codes "from") (codes "From") fields ++ (field_member (codes "to") (codes "To") fields
    ++ (field_member (codes "subject") (codes "Subject") fields ++ (field_member (codes "date") (codes "Date") fields
    ++ (field_member (codes "message_id") (codes "Message-ID") fields ++ field_member (codes "in_reply_to") (codes "In-Reply-To") fields))))

-- the members of a message that say its number, where it begins and ends in bytes from 0, and how many sections it has
abbrev pub place_members : ℕ → ℕ → ℕ → ℕ → List ℕ
place_members number start end sections =
    codes "{\"number\":" ++ (decimal number ++ (codes ",\"start\":" ++ (decimal start ++ (codes ",\"end\":" ++ (decimal end ++ (codes ",\"sections\":" ++ decimal sections))))))

-- the line of a message: an object of these members
abbrev pub object_line : ℕ → ℕ → List ℕ → List ℕ
object_line number start text =
    place_members number start (start + length text) (section_count text) ++ (said_members (field_lines (tree text).root) ++ (codes "}" ++ line_feed ∷ []))
