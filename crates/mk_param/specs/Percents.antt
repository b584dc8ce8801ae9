-- Bytes written with percent signs (RFC 2231, 7: ext-octet and attribute-char).
use Rattle.mk_line.specs.Ascii.{asterisk}
use Rattle.std.specs.Prelude.{◌==◌, ◌&&◌, ◌||◌, ◌/◌, ◌%◌, if◌then◌else◌, ℕ, Bool, not, List, [], ◌∷◌, Option, Some, None}
use Rattle.std.specs.List.{flat_map}
use Rattle.mk_head.specs.Values.{is_token_byte}
use Rattle.mk_code.specs.EncodedWords.{put_before}
use Rattle.mk_code.specs.QuotedPrintable.{hex_digit, is_hex_digit, pair_value}

-- b'%'
abbrev pub percent_sign : ℕ
percent_sign = 37

-- b'\''
abbrev pub apostrophe : ℕ
apostrophe = 39

-- `%` and two hexadecimal digits of either case (lower case is own) are a byte, `%` without them is invalid, and other bytes
-- stand for themselves (RFC 2231, 7)
abbrev pub percent_decoded : List ℕ → Option (List ℕ)
percent_decoded [] = Some []
percent_decoded (byte ∷ []) = if byte == percent_sign then None else Some (byte ∷ [])
percent_decoded (byte ∷ next ∷ []) = if byte == percent_sign then None else put_before byte (percent_decoded (next ∷ []))
percent_decoded (byte ∷ high ∷ low ∷ bytes) =
    if byte == percent_sign then (if is_hex_digit high && is_hex_digit low then put_before (pair_value high low) (percent_decoded bytes) else None)
    else put_before byte (percent_decoded (high ∷ low ∷ bytes))

-- a byte that is written as itself: one of a token, but for `*`, `'` and `%` (RFC 2231, 7: attribute-char)
abbrev pub is_attribute_byte : ℕ → Bool
is_attribute_byte byte = is_token_byte byte && not (byte == asterisk || byte == apostrophe || byte == percent_sign)

-- a byte as itself, or as `%` and two digits
abbrev pub byte_encoded : ℕ → List ℕ
byte_encoded byte =
    if is_attribute_byte byte then byte ∷ [] else percent_sign ∷ hex_digit (byte / 16) ∷ hex_digit (byte % 16) ∷ []

-- bytes, each as itself or with a percent sign
abbrev pub percent_encoded : List ℕ → List ℕ
percent_encoded bytes = flat_map byte_encoded bytes
