-- Kinds of line (RFC 5322, 2.2 and 2.2.3; 4.5 for the blanks before a colon).
use Rattle.std.specs.Prelude.{◌==◌, ◌&&◌, if◌then◌else◌, ℕ, Bool, false, not, Option, None, Some, List, [], ◌∷◌, codes, nat_eq}
use Rattle.std.specs.List.{list_all, starts_with, prefix_len}
use Rattle.mk_line.specs.Ascii.{is_blank, is_name_byte, colon}
use Rattle.mk_line.specs.Lines.{is_nil}

-- a name has one byte or more, each a byte of a name (RFC 5322, 2.2)
abbrev pub is_name : List ℕ → Bool
is_name bytes = not (is_nil bytes) && list_all is_name_byte bytes

-- blanks or none, and then a colon
abbrev pub is_past_blanks_colon : List ℕ → Bool
is_past_blanks_colon [] = false
is_past_blanks_colon (byte ∷ bytes) = if is_blank byte then is_past_blanks_colon bytes else byte == colon

-- the rest of a name, and then blanks or none and a colon
abbrev pub is_after_name : List ℕ → Bool
is_after_name [] = false
is_after_name (byte ∷ bytes) = if is_name_byte byte then is_after_name bytes else is_past_blanks_colon (byte ∷ bytes)

-- a field start: a name of one or more bytes, blanks or none, a colon
abbrev pub is_field_start : List ℕ → Bool
is_field_start [] = false
is_field_start (byte ∷ bytes) = is_name_byte byte && is_after_name bytes

-- the length of a field start's name, the longest front of bytes of a name
abbrev pub name_len : List ℕ → Option ℕ
name_len content = if is_field_start content then Some (prefix_len is_name_byte content) else None

-- a continuation begins with a blank
abbrev pub is_continuation : List ℕ → Bool
is_continuation [] = false
is_continuation (byte ∷ bytes) = is_blank byte

-- the line that mailboxes put before a message: it begins with `From ` and starts no field (own)
abbrev pub is_from_line : List ℕ → Bool
is_from_line content = starts_with nat_eq content (codes "From ") && not (is_field_start content)
