-- Where in a text the line of a kind begins (own).
use Rattle.std.specs.Prelude.{◌==◌, ◌&&◌, ◌||◌, ◌+◌, if◌then◌else◌, ℕ, Bool, nat_lt, List, [], ◌∷◌, Option, None, Some, length}
use Rattle.std.specs.List.{list_any}
use Rattle.std.specs.Option.{option_map}
use Rattle.mk_line.specs.Lines.{TextLine, printed_line}
use Rattle.mk_head.specs.Fields.{field_text, is_named}
use Rattle.mk_head.specs.Split.{is_start}

-- the bytes that a line may have at most, without its ending (RFC 5322, 2.1.1)
abbrev pub most_in_line : ℕ
most_in_line = 998

-- some byte of a line isn't ASCII
abbrev pub is_not_ascii : TextLine → Bool
is_not_ascii l = list_any (λ byte. nat_lt 127 byte) l.content

-- a line is longer than it may be
abbrev pub is_too_long : TextLine → Bool
is_too_long l = nat_lt most_in_line (length l.content)

-- some byte of a line is a NUL (RFC 5322, 4.1 forbids it to be made)
abbrev pub has_nul : TextLine → Bool
has_nul l = list_any (λ byte. byte == 0) l.content

-- a field of a name begins
abbrev pub begins_named : List ℕ → TextLine → Bool
begins_named name l = is_start l && is_named name (field_text l [])

-- where the next line of a kind begins, in bytes from the start of the lines; the one after it, where the first doesn't count
abbrev pub line_place : (TextLine → Bool) → Bool → List TextLine → Option ℕ
line_place kind first_counts [] = None
line_place kind first_counts (l ∷ ls) =
    if kind l && first_counts then Some 0
    else option_map (λ place. length (printed_line l) + place) (line_place kind (first_counts || kind l) ls)
