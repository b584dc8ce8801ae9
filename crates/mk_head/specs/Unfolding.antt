-- The value of a field (RFC 5322, 2.2.3).
use Rattle.std.specs.Prelude.{◌++◌, ℕ, Option, None, Some, List, [], ◌∷◌, unwrap_or}
use Rattle.mk_line.specs.Ascii.{colon}
use Rattle.mk_line.specs.Lines.{TextLine}
use Rattle.mk_line.specs.Parting.{following}

-- the contents of lines, joined
abbrev pub contents : List TextLine → List ℕ
contents [] = []
contents (l ∷ ls) = l.content ++ contents ls

-- what follows the first colon
abbrev pub value_in : List TextLine → List ℕ
value_in ls = unwrap_or (following colon (contents ls)) []
