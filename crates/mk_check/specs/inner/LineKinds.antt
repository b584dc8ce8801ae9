-- Kinds of lines in memory as what they say.
use Rattle.std.specs.Prelude.{Bool}
use Rattle.mk_line.specs.Lines.{TextLine}
use Rattle.mk_check.specs.declared.places.LineKind.{LineKind}
use Rattle.mk_check.specs.declared.places.LineKind.TheVariants.{NotAscii, TooLong, HasNul, Begins}
use Rattle.mk_check.specs.Places.{begins_named, has_nul, is_not_ascii, is_too_long}

-- a line is of a kind in memory
abbrev pub line_kind_of : LineKind → TextLine → Bool
line_kind_of NotAscii = is_not_ascii
line_kind_of TooLong = is_too_long
line_kind_of HasNul = has_nul
line_kind_of (Begins name) = begins_named name.now
