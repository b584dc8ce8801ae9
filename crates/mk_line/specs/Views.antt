-- A line in memory as a line of a text, and where a line begins.
use Rattle.std.specs.Prelude.{◌≡◌, ◌≤◌, ◌<◌, ◌-◌, ℕ, List, length, slice_index}
use Rattle.mk_line.specs.declared.cutting.Line.{Line}
use Rattle.mk_line.specs.Ascii.{line_feed}
use Rattle.mk_line.specs.Lines.{TextLine, text_line}

-- a line without where it lies in memory
abbrev pub line_of : Line → TextLine
line_of l = text_line l.content.now l.ending

-- a line begins at the place, or the text ends there
pub record BeginsLine (text : List ℕ) (place : ℕ) : Type 0 where
  pub within : place ≤ length text
  pub after_feed : 0 < place → place < length text → slice_index text (place - 1) ≡ line_feed
