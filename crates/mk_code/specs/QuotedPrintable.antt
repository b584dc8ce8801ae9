-- Quoted-printable (RFC 2045, 6.7).
use Rattle.std.specs.Prelude.{◌==◌, ◌&&◌, ◌||◌, ◌+◌, ◌*◌, ◌/◌, ◌%◌, ◌-◌, if◌then◌else◌, ℕ, Bool, nat_le, nat_lt, not, List, [], ◌∷◌, ◌++◌, length, Option, Some, None}
use Rattle.std.specs.List.{flat_map, join_by}
use Rattle.mk_line.specs.declared.cutting.Ending.{Ending}
use Rattle.mk_line.specs.declared.cutting.Ending.TheVariants.{Crlf, Lf, Missing}
use Rattle.mk_line.specs.Ascii.{is_blank, hyphen, line_feed, carriage_return, equals_sign, full_stop, capital_f}
use Rattle.mk_line.specs.Lines.{TextLine, cut, ending_bytes, is_nil}
use Rattle.mk_line.specs.Marks.{trimmed}
use Rattle.mk_code.specs.OutputLines.{widest}

-- a hexadecimal digit of either case
abbrev pub is_hex_digit : ℕ → Bool
is_hex_digit byte = (nat_le 48 byte && nat_le byte 57) || (nat_le 65 byte && nat_le byte 70) || (nat_le 97 byte && nat_le byte 102)

-- the number that a digit stands for
abbrev pub digit_value : ℕ → ℕ
digit_value byte = if nat_le byte 57 then byte - 48 else (if nat_le byte 70 then byte - 55 else byte - 87)

-- the byte that two digits stand for
abbrev pub pair_value : ℕ → ℕ → ℕ
pair_value high low = digit_value high * 16 + digit_value low

-- the byte of two digits at the start
abbrev pub pair_at : List ℕ → Option ℕ
pair_at [] = None
pair_at (high ∷ []) = None
pair_at (high ∷ low ∷ bytes) = if is_hex_digit high && is_hex_digit low then Some (pair_value high low) else None

-- `=` and two digits are a byte; `=` as the last byte is a soft break, which takes the ending away; all else, `=` too
-- (own), stands for itself
abbrev pub unquoted : List ℕ → List ℕ → List ℕ
unquoted ending [] = ending
unquoted ending (byte ∷ []) = if byte == equals_sign then [] else byte ∷ ending
unquoted ending (byte ∷ next ∷ []) = byte ∷ unquoted ending (next ∷ [])
unquoted ending (byte ∷ high ∷ low ∷ bytes) =
    if byte == equals_sign && (is_hex_digit high && is_hex_digit low) then pair_value high low ∷ unquoted ending bytes
    else byte ∷ unquoted ending (high ∷ low ∷ bytes)

-- what a line by itself stands for: blanks at its end don't count (RFC 2045, 6.7, rule 3)
abbrev pub line_unquoted : TextLine → List ℕ
line_unquoted l = unquoted (ending_bytes l.ending) (trimmed l.content)

-- what a quoted-printable text stands for
abbrev pub qp_decoded : List ℕ → List ℕ
qp_decoded text = flat_map line_unquoted (cut text)

-- a byte before the logical lines of what follows it
abbrev pub before_lines : Ending → ℕ → List (List ℕ) → List (List ℕ)
before_lines eol byte [] = (byte ∷ []) ∷ []
before_lines Lf byte (line ∷ lines) = if byte == line_feed then [] ∷ line ∷ lines else (byte ∷ line) ∷ lines
before_lines Crlf byte ([] ∷ lines) = (byte ∷ []) ∷ lines
before_lines Crlf byte ((next ∷ line) ∷ lines) =
    if byte == carriage_return && next == line_feed then [] ∷ line ∷ lines else (byte ∷ next ∷ line) ∷ lines
before_lines Missing byte (line ∷ lines) = (byte ∷ line) ∷ lines

-- the bytes cut at each ending
abbrev pub logical_lines : Ending → List ℕ → List (List ℕ)
logical_lines eol [] = [] ∷ []
logical_lines eol (byte ∷ bytes) = before_lines eol byte (logical_lines eol bytes)

-- an upper case hexadecimal digit
abbrev pub hex_digit : ℕ → ℕ
hex_digit value = if nat_lt value 10 then 48 + value else 55 + value

-- a byte as `=` and two digits
abbrev pub escaped : ℕ → List ℕ
escaped byte = equals_sign ∷ hex_digit (byte / 16) ∷ hex_digit (byte % 16) ∷ []

-- printable ASCII but for `=`, and blanks
abbrev pub is_quiet : ℕ → Bool
is_quiet byte = (nat_le 33 byte && nat_le byte 126 && not (byte == equals_sign)) || is_blank byte

-- a byte with which a delimiter, the end of an SMTP message or a From-line begins (own)
abbrev pub is_guarded : ℕ → Bool
is_guarded byte = byte == hyphen || byte == full_stop || byte == capital_f

-- a byte stands for itself where it is the first of an output line or not, and the last of a logical line or not
abbrev pub is_plain : Bool → Bool → ℕ → Bool
is_plain first last byte = is_quiet byte && not (first && is_guarded byte) && not (last && is_blank byte)

-- a byte on an output line, at a column from 0 and with these bytes after it in its logical line
abbrev pub form : ℕ → ℕ → List ℕ → List ℕ
form column byte more = if is_plain (column == 0) (is_nil more) byte then byte ∷ [] else escaped byte

-- the greatest length of an output line with a byte's form: a soft break needs a place after it
abbrev pub limit : List ℕ → ℕ
limit more = if is_nil more then widest else widest - 1

-- the forms of a logical line's bytes, of which the first comes at a column: as many on an output line as fit
abbrev pub packed : List ℕ → ℕ → List ℕ → List ℕ
packed eol column [] = []
packed eol column (byte ∷ more) =
    if nat_le (column + length (form column byte more)) (limit more)
    then form column byte more ++ packed eol (column + length (form column byte more)) more
    else equals_sign ∷ (eol ++ (form 0 byte more ++ packed eol (length (form 0 byte more)) more))

-- quoted-printable: each logical line packed by itself, with the ending between two
abbrev pub qp_encoded : Ending → List ℕ → List ℕ
qp_encoded eol bytes = join_by (packed (ending_bytes eol) 0) (ending_bytes eol) (logical_lines eol bytes)
