-- The separator of lines of which some were looked at.
use Rattle.std.proofs.Common.{◌≡◌, ℕ, List, [], ◌∷◌, refl}
use Rattle.mk_line.specs.Lines.{TextLine}
use Rattle.mk_messages.specs.inner.Separators.{empty_length, separator_length}

-- how many bytes the separator has, where the last line so far has so many
abbrev pub length_after : ℕ → List TextLine → ℕ
length_after length [] = length
length_after length (l ∷ ls) = separator_length (l ∷ ls)

pub after_one : (length : ℕ) (l : TextLine) (ls : List TextLine) → length_after (empty_length l) ls ≡ length_after length (l ∷ ls)
after_one length l [] = refl
after_one length l (m ∷ ms) = refl
