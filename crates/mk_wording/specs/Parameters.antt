-- Parameters of fields that aren't ASCII, with a charset (RFC 2231, 4).
use Rattle.std.specs.Prelude.{◌==◌, ◌&&◌, ◌||◌, ◌++◌, if◌then◌else◌, ℕ, Bool, true, false, not, Option, None, Some, List, [], ◌∷◌, codes}
use Rattle.std.specs.List.{list_all}
use Rattle.std.specs.Option.{option_and_then}
use Rattle.mk_line.specs.declared.cutting.Ending.{Ending}
use Rattle.mk_line.specs.Ascii.{backslash, equals_sign, quote}
use Rattle.mk_line.specs.Lines.{is_nil}
use Rattle.mk_line.specs.Marks.{trimmed}
use Rattle.mk_param.specs.Percents.{is_attribute_byte, percent_encoded}
use Rattle.mk_script.specs.Paths.{parted}
use Rattle.mk_wording.specs.Stretches.{Stretch, are_ascii, comment_of, indent, name_said, part_before, unindented, worded_stretches}
use Rattle.mk_wording.specs.declared.stretches.Outside.TheVariants.{Ascii}

-- the name of a parameter that can have a charset: one or more bytes of a token, but for `*`, `'` and `%` (RFC 2231, 7)
abbrev pub is_attribute : List ℕ → Bool
is_attribute name = not (is_nil name) && list_all is_attribute_byte name

-- after the quote that begins a quoted string: the quote that ends it is the last byte
abbrev pub ends_quoted : Bool → List ℕ → Bool
ends_quoted escaped [] = false
ends_quoted true (byte ∷ bytes) = ends_quoted false bytes
ends_quoted false (byte ∷ bytes) =
    if byte == backslash then ends_quoted true bytes else (if byte == quote then is_nil bytes else ends_quoted false bytes)

-- neither a quote nor a backslash
abbrev pub is_bare_byte : ℕ → Bool
is_bare_byte byte = not (byte == quote || byte == backslash)

-- a value without quotes, or one quoted string (RFC 2045, 5.1; that other bytes may stand in a value without quotes is own)
abbrev pub is_whole_value : List ℕ → Bool
is_whole_value [] = false
is_whole_value (byte ∷ bytes) = if byte == quote then ends_quoted false bytes else list_all is_bare_byte (byte ∷ bytes)

-- a parameter as its name and its value, without the white space around them
abbrev pub charset_parameter : List ℕ → List ℕ → List ℕ → Option (List ℕ)
charset_parameter white name value =
    if is_attribute name && is_whole_value value then Some (white ++ (name ++ (codes "*=utf-8''" ++ percent_encoded (name_said false value)))) else None

-- a parameter, with its charset where it isn't ASCII; nothing where that can't be: it is parted at its first equals sign
abbrev pub worded_parameter : List ℕ → Option (List ℕ)
worded_parameter text =
    if are_ascii text then Some text
    else option_and_then (λ p. charset_parameter (indent p.0) (trimmed (unindented p.0)) (trimmed (unindented p.1))) (parted equals_sign text)

-- a parameter and the comments after it
abbrev pub parameter_first : Ending → List Stretch → Option (List ℕ)
parameter_first eol [] = Some []
parameter_first eol (s ∷ ss) = part_before (comment_of eol s) (worded_parameter s.outside) (worded_stretches Ascii eol ss)
