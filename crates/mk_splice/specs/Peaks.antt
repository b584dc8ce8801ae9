-- How long a text gets while a step is taken back or made again (own).
use Rattle.std.specs.Prelude.{◌+◌, ◌-◌, ℕ, List, [], ◌∷◌, length, max}
use Rattle.mk_splice.specs.Splices.{Splice}

-- how long a text of so many bytes is after a step is taken back
abbrev pub size_back : List Splice → ℕ → ℕ
size_back [] size = size
size_back (s ∷ ss) size = size_back ss size - length s.new + length s.old

-- how long it is at most on the way, at its start and its end too
abbrev pub most_back : List Splice → ℕ → ℕ
most_back [] size = size
most_back (s ∷ ss) size = max (most_back ss size) (size_back (s ∷ ss) size)

-- the same where a step is made again
abbrev pub most_forth : List Splice → ℕ → ℕ
most_forth [] size = size
most_forth (s ∷ ss) size = max size (most_forth ss (size - length s.old + length s.new))
