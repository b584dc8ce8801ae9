-- Strings of JSON (RFC 8259, 7).
use Rattle.std.specs.Prelude.{◌∷◌, ◌++◌, ℕ, List}
use Rattle.std.specs.Str.Lossy.{utf8_lossy}
use Rattle.serde_json.specs.Data.{string}
use Rattle.serde_json.specs.Written.{compact_text}
use Rattle.mk_line.specs.Ascii.{colon, quote}

-- bytes as a string, with the shortest escapes; those that aren't UTF-8 become U+FFFD (U+FFFD is own)
abbrev pub json_string : List ℕ → List ℕ
json_string bytes = compact_text (string (utf8_lossy bytes))

-- b','
abbrev pub comma : ℕ
comma = 44

-- a member after others, of a key that needs no escapes: a comma, the key in quotes, a colon and the value (RFC 8259, 4)
abbrev pub member_after : List ℕ → List ℕ → List ℕ
member_after key value = comma ∷ quote ∷ key ++ (quote ∷ colon ∷ value)
