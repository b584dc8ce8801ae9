-- A text with room for more bytes.
use Rattle.std.specs.Prelude.{ℕ, List}

-- the bytes of a text, and how many bytes it can have without an allocation
pub record Roomy : Type 0 where
  pub bytes : List ℕ
  pub capacity : ℕ
