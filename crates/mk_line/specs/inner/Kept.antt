-- Texts that get longer, as private contracts speak of them.
use Rattle.std.specs.Prelude.{◌≡◌, ℕ, List, length, take}

-- the first text stands at the start of the second
abbrev pub IsKept : List ℕ → List ℕ → Type 0
IsKept front text = take (length front) text ≡ front
