-- A text in two parts.
use Rattle.std.specs.Prelude.{◌++◌, ℕ, List}

-- the bytes before a gap, and those after it
pub record Gapped : Type 0 where
  pub front : List ℕ
  pub rest : List ℕ

-- the text without the gap
abbrev pub without_gap : Gapped → List ℕ
without_gap t = t.front ++ t.rest
