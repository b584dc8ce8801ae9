-- Texts without the white space around them (own; white space is that of ASCII, with which RFC 5322, 2.2.3 folds a field).
use Rattle.std.specs.Prelude.{◌∷◌, [], if◌then◌else◌, ℕ, List, drop}
use Rattle.std.specs.Char.{is_ascii_whitespace}
use Rattle.std.specs.List.{prefix_len}

-- without the white space at the start
abbrev pub without_space_before : List ℕ → List ℕ
without_space_before text = drop (prefix_len is_ascii_whitespace text) text

-- a byte before bytes that have no white space at the end: it goes where it is white space and nothing is left of them
abbrev pub before_space : ℕ → List ℕ → List ℕ
before_space byte [] = if is_ascii_whitespace byte then [] else byte ∷ []
before_space byte (next ∷ bytes) = byte ∷ next ∷ bytes

-- without the white space at the end
abbrev pub without_space_after : List ℕ → List ℕ
without_space_after [] = []
without_space_after (byte ∷ bytes) = before_space byte (without_space_after bytes)

-- without the white space at both ends
abbrev pub without_space_around : List ℕ → List ℕ
without_space_around text = without_space_after (without_space_before text)
