-- The grammar of comments and quoted strings, in which all that is opened is closed (RFC 5322, 3.2.1, 3.2.2 and 3.2.4; that any
-- byte may stand in them is our own).
use Rattle.std.specs.Prelude.{◌≡◌, ◌==◌, ◌++◌, ℕ, false, List, [], ◌∷◌}
use Rattle.mk_line.specs.Ascii.{backslash, closing, opening, quote, semicolon}

-- what stands between the parentheses of a comment: bytes that are no parenthesis and no backslash, pairs of a backslash and any
-- byte, and comments (RFC 5322, 3.2.2)
pub data IsComment : List ℕ → Type 0 where
  Ended : IsComment []
  Bare : (byte : ℕ) (text : List ℕ) → (byte == opening) ≡ false → (byte == closing) ≡ false → (byte == backslash) ≡ false → IsComment text → IsComment (byte ∷ text)
  Escaped : (byte : ℕ) (text : List ℕ) → IsComment text → IsComment (backslash ∷ byte ∷ text)
  Nested : (inner text : List ℕ) → IsComment inner → IsComment text → IsComment (opening ∷ (inner ++ closing ∷ text))

-- what stands between the quotes of a quoted string, and the bytes that it stands for: bytes that are no quote and no backslash, and
-- pairs of a backslash and any byte, which stand for that byte (RFC 5322, 3.2.4)
pub data IsQuoted : List ℕ → List ℕ → Type 0 where
  Closed : IsQuoted [] []
  Plainly : (byte : ℕ) (text bytes : List ℕ) → (byte == quote) ≡ false → (byte == backslash) ≡ false → IsQuoted text bytes → IsQuoted (byte ∷ text) (byte ∷ bytes)
  Paired : (byte : ℕ) (text bytes : List ℕ) → IsQuoted text bytes → IsQuoted (backslash ∷ byte ∷ text) (byte ∷ bytes)

-- a value, and what stands between its semicolons: bytes that are no quote and open no comment, and quoted strings; the comments
-- are left out (RFC 2045, 5.1; that they may stand between any two bytes is our own)
pub data IsValue : List ℕ → List (List ℕ) → Type 0 where
  Nothing : IsValue [] ([] ∷ [])
  Byte : (byte : ℕ) (text piece : List ℕ) (others : List (List ℕ)) → (byte == quote) ≡ false → (byte == opening) ≡ false → (byte == semicolon) ≡ false → IsValue text (piece ∷ others) → IsValue (byte ∷ text) ((byte ∷ piece) ∷ others)
  Quotes : (inside bytes text piece : List ℕ) (others : List (List ℕ)) → IsQuoted inside bytes → IsValue text (piece ∷ others) → IsValue (quote ∷ (inside ++ quote ∷ text)) ((quote ∷ (inside ++ quote ∷ piece)) ∷ others)
  Remark : (inside text : List ℕ) (parts : List (List ℕ)) → IsComment inside → IsValue text parts → IsValue (opening ∷ (inside ++ closing ∷ text)) parts
  Semicolon : (text : List ℕ) (parts : List (List ℕ)) → IsValue text parts → IsValue (semicolon ∷ text) ([] ∷ parts)
