-- A text with a gap, for private contracts.
use Rattle.std.specs.Prelude.{◌++◌, ℕ, List}

-- the bytes before the gap and those after it, and how many bytes it can have with the room of the gap, and in its memory
pub record Opened : Type 0 where
  pub front : List ℕ
  pub rest : List ℕ
  pub room : ℕ
  pub capacity : ℕ

-- its bytes
abbrev pub shut : Opened → List ℕ
shut t = t.front ++ t.rest
