-- What stands before and after the first of some bytes.
use Rattle.std.specs.Prelude.{◌==◌, if◌then◌else◌, ℕ, Bool, Option, None, Some, List, [], ◌∷◌}
use Rattle.std.specs.List.{list_any}

-- some byte is this one
abbrev pub has_byte : ℕ → List ℕ → Bool
has_byte byte bytes = list_any (λ other. other == byte) bytes

-- what stands before the first byte of a kind
abbrev pub before : ℕ → List ℕ → List ℕ
before mark [] = []
before mark (byte ∷ bytes) = if byte == mark then [] else byte ∷ before mark bytes

-- what follows it, where it is there
abbrev pub following : ℕ → List ℕ → Option (List ℕ)
following mark [] = None
following mark (byte ∷ bytes) = if byte == mark then Some bytes else following mark bytes
