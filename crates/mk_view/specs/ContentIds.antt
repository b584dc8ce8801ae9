-- The id of a section, as a URL has it (RFC 2045, 7; RFC 2392).
use Rattle.std.specs.Prelude.{◌==◌, ◌&&◌, if◌then◌else◌, ℕ, Option, None, Some, List, [], ◌∷◌, codes}
use Rattle.std.specs.Option.{option_map_or}
use Rattle.mk_line.specs.Ascii.{quote}
use Rattle.mk_line.specs.Lines.{is_nil}
use Rattle.mk_line.specs.Parting.{before}
use Rattle.mk_head.specs.Types.{field_value}
use Rattle.mk_head.specs.Values.{Scan, Plain, is_plain, scan, stripped}
use Rattle.mk_tree.specs.Sections.{Placed}
use Rattle.mk_tree.specs.Tree.{field_lines}

-- b'<'
abbrev pub less_than : ℕ
less_than = 60

-- b'>'
abbrev pub greater_than : ℕ
greater_than = 62

-- where the byte after this one stands, before an id: a comment may stand there, and a quoted string may not (RFC 5322, 3.6.4)
abbrev pub scan_past : Scan → ℕ → Scan
scan_past s byte = if is_plain s && byte == quote then s else scan s byte

-- what follows the first `<` outside comments, where there is one
abbrev pub past_less : Scan → List ℕ → Option (List ℕ)
past_less s [] = None
past_less s (byte ∷ bytes) = if is_plain s && byte == less_than then Some bytes else past_less (scan_past s byte) bytes

-- the id in a value, without the blanks at both ends: what stands between angle brackets, or a value without them (own)
abbrev pub id_in : List ℕ → List ℕ
id_in value = option_map_or (λ rest. stripped (before greater_than rest)) (past_less Plain value) (stripped value)

-- an id that isn't empty
abbrev pub said_id : List ℕ → Option (List ℕ)
said_id id = if is_nil id then None else Some id

-- the id that a section's first Content-ID says
abbrev pub content_id : Placed → Option (List ℕ)
content_id p = option_map_or (λ value. said_id (id_in value)) (field_value (codes "Content-ID") (field_lines p.entity)) None
