-- The identifiers of messages, and which of them were seen (RFC 5322, 3.6.4; that they tell repeated messages is own).
use Rattle.std.specs.Prelude.{◌++◌, ◌∷◌, [], if◌then◌else◌, ℕ, Bool, false, List, Option, None, Some, codes, map}
use Rattle.std.specs.FinSet as set
use Rattle.std.specs.Option.{option_map_or}
use Rattle.std.specs.Ordering.{nat_cmp}
use Rattle.std.specs.Cmp.Lexicographic.{slice_cmp}
use Rattle.mk_line.specs.Ascii.{line_feed}
use Rattle.mk_line.specs.Lines.{cut, ends_open, is_nil}
use Rattle.mk_tree.specs.Documents.{tree}
use Rattle.mk_tree.specs.Sections.{root_of, section_fields}
use Rattle.mk_reply.specs.Replies.{words_of_name}
use Rattle.mk_wording.specs.Values.{line_byte}

-- what a Message-ID says, on one line; none where it says nothing
abbrev pub id_of_words : List ℕ → Option (List ℕ)
id_of_words words = if is_nil words then None else Some (map line_byte words)

-- the identifier of a message: what its first Message-ID says
abbrev pub message_id : List ℕ → Option (List ℕ)
message_id message = id_of_words (words_of_name (codes "Message-ID") (section_fields (root_of (tree message))))

-- identifiers that were seen, compared byte by byte
abbrev pub Seen : Type 0
Seen = set.FinSet (slice_cmp nat_cmp)

-- whether the identifier of a message was seen; a message without one is never seen
abbrev pub is_repeated : Seen → List ℕ → Bool
is_repeated seen message = option_map_or (set.contains seen) (message_id message) false

-- the identifiers that were seen once a message was
abbrev pub seen_after : Seen → List ℕ → Seen
seen_after seen message = option_map_or (set.insert seen) (message_id message) seen

-- the identifiers of a file, one on each line
abbrev pub ids_in : List ℕ → List (List ℕ)
ids_in file = map (λ line. line.content) (cut file)

-- what a file has seen
abbrev pub seen_in : List ℕ → Seen
seen_in file = set.from_list (ids_in file)

-- the line of an identifier
abbrev pub id_line : List ℕ → List ℕ
id_line id = id ++ line_feed ∷ []

-- the line of the identifier of a message that is seen for the first time; nothing where it has none
abbrev pub new_line : Seen → List ℕ → List ℕ
new_line seen message = if is_repeated seen message then [] else option_map_or id_line (message_id message) []

-- a file with lines more, of which an open last line is ended
abbrev pub with_lines : List ℕ → List ℕ → List ℕ
with_lines file lines = if is_nil lines then file else (if ends_open file then file ++ line_feed ∷ lines else file ++ lines)
