-- The bytes that messages are cut by, each named once.
use Rattle.std.specs.Prelude.{◌==◌, ◌&&◌, ◌||◌, ℕ, Bool, nat_le, not}

-- b'\t'
abbrev pub tab : ℕ
tab = 9

-- b'\n'
abbrev pub line_feed : ℕ
line_feed = 10

-- b'\r'
abbrev pub carriage_return : ℕ
carriage_return = 13

-- b' '
abbrev pub space : ℕ
space = 32

-- b'"'
abbrev pub quote : ℕ
quote = 34

-- b'('
abbrev pub opening : ℕ
opening = 40

-- b')'
abbrev pub closing : ℕ
closing = 41

-- b'*'
abbrev pub asterisk : ℕ
asterisk = 42

-- b'-'
abbrev pub hyphen : ℕ
hyphen = 45

-- b'.'
abbrev pub full_stop : ℕ
full_stop = 46

-- b'/'
abbrev pub slash : ℕ
slash = 47

-- b':'
abbrev pub colon : ℕ
colon = 58

-- b';'
abbrev pub semicolon : ℕ
semicolon = 59

-- b'='
abbrev pub equals_sign : ℕ
equals_sign = 61

-- b'?'
abbrev pub question_mark : ℕ
question_mark = 63

-- b'F'
abbrev pub capital_f : ℕ
capital_f = 70

-- b'\\'
abbrev pub backslash : ℕ
backslash = 92

-- b'_'
abbrev pub underscore : ℕ
underscore = 95

-- a blank is a space or a tab (RFC 5234, WSP)
abbrev pub is_blank : ℕ → Bool
is_blank byte = byte == space || byte == tab

-- a byte of a field's name: printable ASCII, 33 to 126, but for the colon (RFC 5322, 2.2)
abbrev pub is_name_byte : ℕ → Bool
is_name_byte byte = nat_le 33 byte && nat_le byte 126 && not (byte == colon)
