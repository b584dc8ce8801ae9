-- The lines of an encoded text.
use Rattle.std.specs.Prelude.{◌≡◌, ◌≢◌, ◌≤◌, false, ℕ, List, [], ◌∷◌, length, slice_index}
use Rattle.mk_line.specs.Ascii.{hyphen}
use Rattle.mk_line.specs.Kinds.{is_from_line}
use Rattle.mk_line.specs.Lines.{TextLine}

-- the most characters of a line (RFC 2045, 6.7 and 6.8)
abbrev pub widest : ℕ
widest = 76

-- a content that is short, begins no delimiter and is no From-line
pub record IsSafe (content : List ℕ) : Type 0 where
  pub short : length content ≤ widest
  pub no_hyphen : slice_index content 0 ≢ hyphen
  pub no_from : is_from_line content ≡ false

-- each line is safe
abbrev pub AreSafe : List TextLine → Type 0
AreSafe [] = Unit {0}
AreSafe (l ∷ ls) = IsSafe l.content × AreSafe ls
