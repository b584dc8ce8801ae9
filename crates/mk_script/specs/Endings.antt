-- Texts with other endings at their lines (own).
use Rattle.std.specs.Prelude.{◌≡◌, ◌⊎◌, ◌==◌, if◌then◌else◌, ℕ, List, [], ◌∷◌, map}
use Rattle.std.specs.List.{list_all}
use Rattle.mk_line.specs.Ascii.{carriage_return}
use Rattle.mk_line.specs.declared.cutting.Ending.{Ending}
use Rattle.mk_line.specs.declared.cutting.Ending.TheVariants.{Crlf, Lf, Missing}
use Rattle.mk_line.specs.Lines.{TextLine, cut, text_line, text_of}

-- another ending, where there is one
abbrev pub turned_ending : Ending → Ending → Ending
turned_ending eol Crlf = eol
turned_ending eol Lf = eol
turned_ending eol Missing = Missing

-- bytes without the carriage returns at their end
abbrev pub without_returns : List ℕ → List ℕ
without_returns [] = []
without_returns (byte ∷ bytes) = if list_all (λ b. b == carriage_return) (byte ∷ bytes) then [] else byte ∷ without_returns bytes

-- a content before an ending: a line feed alone has no carriage return before it, which would be read as part of the ending (own)
abbrev pub content_before : Ending → List ℕ → List ℕ
content_before Crlf content = content
content_before Lf content = without_returns content
content_before Missing content = content

-- a line with another ending
abbrev pub turned_line : Ending → TextLine → TextLine
turned_line eol l = text_line (content_before (turned_ending eol l.ending) l.content) (turned_ending eol l.ending)

-- a text with another ending at each of its lines
abbrev pub turned_to : Ending → List ℕ → List ℕ
turned_to eol text = text_of (map (turned_line eol) (cut text))

-- each line has the ending, but for a last one that has none
abbrev pub HaveEnding : Ending → List TextLine → Type 0
HaveEnding eol [] = Unit {0}
HaveEnding eol (l ∷ ls) = ((l.ending ≡ eol) ⊎ ((l.ending ≡ Missing) × (ls ≡ []))) × HaveEnding eol ls
