-- Bytes between letters of base64, as private contracts speak of them.
use Rattle.std.specs.Prelude.{ℕ, Bool, not}
use Rattle.mk_code.specs.Base64Text.{is_letter}

-- a byte is no letter of base64
abbrev pub is_stray : ℕ → Bool
is_stray byte = not (is_letter byte)
