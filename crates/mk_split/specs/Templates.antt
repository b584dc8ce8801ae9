-- Names of files by the number of a message (own; the place of the number is written as printf of POSIX has it).
use Rattle.std.specs.Prelude.{◌==◌, ◌&&◌, ◌||◌, ◌-◌, ◌++◌, if◌then◌else◌, ℕ, Bool, true, not, nat_le, nat_lt, Option, None, Some, List, [], ◌∷◌, decimal, length, replicate}
use Rattle.std.specs.List.{list_all}
use Rattle.std.specs.Option.{option_and_then}
use Rattle.mk_line.specs.Ascii.{full_stop, hyphen, slash, backslash}
use Rattle.mk_script.specs.Paths.{parted}

-- a template: what stands before and after the number, and how many digits it has at least
pub record Naming : Type 0 where
  pub front : List ℕ
  pub width : ℕ
  pub back : List ℕ

-- b'0', b'9', b'%' and b'd'
abbrev pub zero_digit : ℕ
zero_digit = 48

abbrev pub nine_digit : ℕ
nine_digit = 57

abbrev pub percent : ℕ
percent = 37

abbrev pub letter_d : ℕ
letter_d = 100

-- a number with zeros before it, up to a width
abbrev pub padded : ℕ → ℕ → List ℕ
padded width number = replicate (width - length (decimal number)) zero_digit ++ decimal number

-- the name of the file of a number
abbrev pub template_name : Naming → ℕ → List ℕ
template_name t number = t.front ++ (padded t.width number ++ t.back)

-- a byte that may stand around the number: visible ASCII or a space, but no divider of folders and no percent sign
abbrev pub is_template_byte : ℕ → Bool
is_template_byte byte = (nat_le 32 byte && nat_lt byte 127) && not (byte == slash || (byte == backslash || byte == percent))

-- a name that begins so isn't hidden, and is no option
abbrev pub leads_well : List ℕ → Bool
leads_well [] = true
leads_well (byte ∷ bytes) = not (byte == full_stop) && not (byte == hyphen)

-- a template whose names are those of files
abbrev pub is_naming : Naming → Bool
is_naming t = leads_well t.front && (list_all is_template_byte t.front && list_all is_template_byte t.back)

-- the width that a digit and `d` write, and what follows them
abbrev pub width_after : List ℕ → Option (ℕ × List ℕ)
width_after [] = None
width_after (digit ∷ []) = None
width_after (digit ∷ byte ∷ bytes) = if (nat_lt zero_digit digit && nat_le digit nine_digit) && byte == letter_d then Some (digit - zero_digit, bytes) else None

-- the width that stands after a percent sign, and what follows it: `d` asks for no zeros, and `0`, a digit from 1 on and `d` for that
-- width
abbrev pub width_of : List ℕ → Option (ℕ × List ℕ)
width_of [] = None
width_of (byte ∷ bytes) = if byte == letter_d then Some (0, bytes) else if byte == zero_digit then width_after bytes else None

-- a template, where its names are those of files
abbrev pub allowed : Naming → Option Naming
allowed t = if is_naming t then Some t else None

-- the template that a text writes
abbrev pub template_of : List ℕ → Option Naming
template_of text = option_and_then (λ p. option_and_then (λ w. allowed (record { front = p.0; width = w.0; back = w.1 })) (width_of p.1)) (parted percent text)
