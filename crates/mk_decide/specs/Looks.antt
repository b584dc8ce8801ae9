-- What is looked at of a section: its lines, and the line after its fields.
use Rattle.std.specs.Prelude.{◌≡◌, ◌<◌, ◌+◌, ◌++◌, ◌∷◌, ◌&&◌, if◌then◌else◌, ℕ, Bool, true, not, Option, List, [], nat_lt, take, drop}
use Rattle.mk_line.specs.Lines.{TextLine, cut, printed_line}
use Rattle.mk_line.specs.Kinds.{is_from_line}
use Rattle.mk_line.specs.Views.{BeginsLine}
use Rattle.mk_head.specs.Split.{is_more}
use Rattle.std.specs.Option.{option_to_list}
use Rattle.mk_tree.specs.Spans.{size}

-- a line of so many bytes stands at a place, and the next begins after it
pub record IsNext (text : List ℕ) (place : ℕ) (l : TextLine) (n : ℕ) : Type 0 where
  pub lines : cut (drop place text) ≡ l ∷ cut (drop (place + n) text)
  pub front : take (place + n) text ≡ take place text ++ printed_line l
  pub begins : BeginsLine text (place + n)
  pub more : 0 < n

-- no line is left at a place
pub record IsEnd (text : List ℕ) (place : ℕ) : Type 0 where
  pub lines : cut (drop place text) ≡ []
  pub front : take place text ≡ text

-- a separator is there: it has a byte
abbrev pub has_separator : Option TextLine → Bool
has_separator o = nat_lt 0 (size (option_to_list o))

-- whether new fields, or none, end before the first of these lines, which the old ones ended before; `first`: a
-- document without an envelope begins with them
abbrev pub ends_before : (none first : Bool) → List TextLine → Bool
ends_before none first [] = true
ends_before none first (l ∷ ls) = if none then not (first && is_from_line l.content) else not (is_more l)

-- whether they end before a separator or a body
abbrev pub ends_there : (none first : Bool) → Option TextLine → List TextLine → Bool
ends_there none first separator body = if has_separator separator then true else ends_before none first body
