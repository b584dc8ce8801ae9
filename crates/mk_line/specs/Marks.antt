-- Delimiters and close lines of a boundary (RFC 2046, 5.1.1; that a whole line must match is our own).
use Rattle.std.specs.Prelude.{if◌then◌else◌, ℕ, List, [], ◌∷◌, ◌++◌, codes}
use Rattle.std.specs.Str.{bytes_eq}
use Rattle.mk_line.specs.declared.cutting.Ending.{Ending}
use Rattle.mk_line.specs.declared.marks.Mark.{Mark}
use Rattle.mk_line.specs.declared.marks.Mark.TheVariants.{No, Part, Close}
use Rattle.mk_line.specs.Ascii.{is_blank, hyphen}
use Rattle.mk_line.specs.Lines.{TextLine, text_line}

-- a byte before bytes that are trimmed: it goes where it is a blank and nothing is left of them
abbrev pub trimmed_before : ℕ → List ℕ → List ℕ
trimmed_before byte [] = if is_blank byte then [] else byte ∷ []
trimmed_before byte (next ∷ bytes) = byte ∷ next ∷ bytes

-- bytes without the blanks at their end
abbrev pub trimmed : List ℕ → List ℕ
trimmed [] = []
trimmed (byte ∷ bytes) = trimmed_before byte (trimmed bytes)

-- two hyphens and the boundary
abbrev pub dashed : List ℕ → List ℕ
dashed boundary = hyphen ∷ hyphen ∷ boundary

-- what a content is to a boundary: its delimiter, its close line, or neither
abbrev pub mark : List ℕ → List ℕ → Mark
mark boundary content =
    if bytes_eq (trimmed content) (dashed boundary) then Part
    else (if bytes_eq (trimmed content) (dashed boundary ++ hyphen ∷ hyphen ∷ []) then Close else No)

-- the delimiter of a part (RFC 2046, 5.1.1)
abbrev pub delimiter_line : Ending → List ℕ → TextLine
delimiter_line eol boundary = text_line (dashed boundary) eol

-- the close line after the last part (RFC 2046, 5.1.1)
abbrev pub close_line : Ending → List ℕ → TextLine
close_line eol boundary = text_line (dashed boundary ++ codes "--") eol
