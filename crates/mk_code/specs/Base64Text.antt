-- Base64 as a transfer encoding (RFC 2045, 6.8; that what isn't a letter is skipped, that the first `=` ends the text and
-- that padding may be missing is our own).
use Rattle.std.specs.Prelude.{◌≡◌, ◌==◌, ◌&&◌, ◌||◌, ◌-◌, ℕ, zero, suc, Bool, nat_le, not, List, [], ◌∷◌, ◌++◌, filter, take_while}
use Rattle.base64.specs.GeneralPurpose.{IsBytes, encode_of}
use Rattle.base64.specs.Engines.{standard, standard_no_pad}
use Rattle.mk_line.specs.declared.cutting.Ending.{Ending}
use Rattle.mk_line.specs.Lines.{ending_bytes}
use Rattle.mk_line.specs.Ascii.{equals_sign}
use Rattle.mk_code.specs.OutputLines.{widest}

-- a letter of base64's alphabet (RFC 2045, 6.8)
abbrev pub is_letter : ℕ → Bool
is_letter byte =
    (nat_le 65 byte && nat_le byte 90) || (nat_le 97 byte && nat_le byte 122) || (nat_le 48 byte && nat_le byte 57)
    || byte == 43 || byte == 47

-- the letters before the first `=`
abbrev pub letters : List ℕ → List ℕ
letters text = filter is_letter (take_while (λ byte. not (byte == equals_sign)) text)

-- the letters of the text are the encoding of these bytes, without padding
abbrev pub IsBase64Of : List ℕ → List ℕ → Type 0
IsBase64Of text bytes = IsBytes bytes × (letters text ≡ encode_of standard_no_pad bytes)

-- the characters with an ending before the one after the next so many, and then after each 76
unfoldable pub lined : List ℕ → ℕ → List ℕ → List ℕ
lined eol left [] = []
lined eol zero (byte ∷ bytes) = eol ++ (byte ∷ lined eol (widest - 1) bytes)
lined eol (suc left) (byte ∷ bytes) = byte ∷ lined eol left bytes

-- padded base64 in lines of 76 characters, with an ending between two lines
abbrev pub base64_encoded : Ending → List ℕ → List ℕ
base64_encoded eol bytes = lined (ending_bytes eol) widest (encode_of standard bytes)
