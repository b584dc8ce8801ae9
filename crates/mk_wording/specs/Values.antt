-- What values of fields say, on one line (RFC 5322, 2.2.3; encoded words RFC 2047).
use Rattle.std.specs.Prelude.{◌==◌, ◌||◌, if◌then◌else◌, ℕ, List, map}
use Rattle.mk_line.specs.Ascii.{carriage_return, line_feed, space}
use Rattle.mk_head.specs.Values.{stripped}
use Rattle.mk_code.specs.EncodedWords.{text_decoded}

-- a byte of a line: a space in the place of a carriage return or a line feed
abbrev pub line_byte : ℕ → ℕ
line_byte byte = if byte == carriage_return || byte == line_feed then space else byte

-- a text without line breaks and without the blanks at both ends
abbrev pub unbroken : List ℕ → List ℕ
unbroken text = stripped (map line_byte text)

-- what a value says: its encoded words decoded, on one line
abbrev pub decoded_value : List ℕ → List ℕ
decoded_value value = unbroken (text_decoded value)
