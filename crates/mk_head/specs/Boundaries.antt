-- Boundaries that may be made (RFC 2046, 5.1.1).
use Rattle.std.specs.Prelude.{◌==◌, ◌&&◌, ◌||◌, ℕ, Bool, not, List, [], ◌∷◌, length, nat_le, codes, false}
use Rattle.std.specs.List.{list_all, list_any}
use Rattle.mk_line.specs.Ascii.{space}
use Rattle.mk_line.specs.Lines.{is_nil}

-- the digits, the letters, and these
abbrev pub is_boundary_byte : ℕ → Bool
is_boundary_byte byte =
    (nat_le 48 byte && nat_le byte 57) || (nat_le 65 byte && nat_le byte 90) || (nat_le 97 byte && nat_le byte 122)
    || list_any (λ special. special == byte) (codes "'()+_,-./:=? ")

-- the last byte is a space
abbrev pub ends_in_space : List ℕ → Bool
ends_in_space [] = false
ends_in_space (byte ∷ []) = byte == space
ends_in_space (byte ∷ next ∷ bytes) = ends_in_space (next ∷ bytes)

-- 1 to 70 of them, the last not a space
abbrev pub is_boundary : List ℕ → Bool
is_boundary bytes = not (is_nil bytes) && nat_le (length bytes) 70 && list_all is_boundary_byte bytes && not (ends_in_space bytes)
