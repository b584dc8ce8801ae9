-- The pieces of a script: texts that its words name by their numbers (own).
use Rattle.std.specs.Prelude.{◌-◌, if◌then◌else◌, ℕ, Bool, false, List, [], slice_index_or}
use Rattle.mk_line.specs.declared.cutting.Ending.{Ending}
use Rattle.mk_script.specs.Endings.{turned_to}

-- pieces, and whether the lines of texts end as those of the message do
pub record Pieces : Type 0 where
  pub texts : List (List ℕ)
  pub turned : Bool

-- pieces that go in as they are
abbrev pub as_given : List (List ℕ) → Pieces
as_given texts = record { texts = texts; turned = false }

-- the piece of a number, counted from 1
abbrev pub piece_text : Pieces → ℕ → List ℕ
piece_text pieces number = slice_index_or pieces.texts (number - 1) []

-- the piece of a number as lines of the message, which end with `eol`
abbrev pub piece_lines : Pieces → Ending → ℕ → List ℕ
piece_lines pieces eol number = if pieces.turned then turned_to eol (piece_text pieces number) else piece_text pieces number
