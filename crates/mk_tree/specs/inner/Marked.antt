-- The line at the start as a mark, as private contracts speak of it.
use Rattle.std.specs.Prelude.{ℕ, Bool, false, List, [], ◌∷◌}
use Rattle.mk_line.specs.Lines.{TextLine}
use Rattle.mk_tree.specs.Upto.{is_marked}

-- the first line is a delimiter or close line of one of the boundaries
abbrev pub first_marked : List (List ℕ) → List TextLine → Bool
first_marked bs [] = false
first_marked bs (l ∷ ls) = is_marked bs l
