-- What is still to come of a text that goes out piece by piece (own).
use Rattle.std.specs.Prelude.{ℕ, List}

-- its bytes, and a number of pieces that is never exceeded
pub record ToCome : Type 0 where
  pub bytes : List ℕ
  pub most : ℕ
