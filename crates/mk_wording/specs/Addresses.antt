-- Names in addresses as encoded words (RFC 5322, 3.4; RFC 2047, 5).
use Rattle.std.specs.Prelude.{ℕ, Bool, true, false, Option, List, [], ◌∷◌, codes}
use Rattle.mk_line.specs.declared.cutting.Ending.{Ending}
use Rattle.mk_wording.specs.Stretches.{part_before, worded_text}
use Rattle.mk_wording.specs.declared.stretches.Outside.TheVariants.{Names, Ascii}

-- what begins the address after a name
abbrev pub angle : List ℕ
angle = codes "<"

-- a name, and what begins with the angle after it; without one it is the name of a group, or an address alone
abbrev pub worded_address : Ending → Bool → List ℕ → List ℕ → Option (List ℕ)
worded_address eol true name [] = worded_text Names eol name
worded_address eol false name [] = worded_text Ascii eol name
worded_address eol group name (byte ∷ bytes) = part_before [] (worded_text Names eol name) (worded_text Ascii eol (byte ∷ bytes))
