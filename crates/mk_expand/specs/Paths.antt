-- The order in which parts are taken out, so that no path changes before its turn (own).
use Rattle.std.specs.Prelude.{ℕ, List, [], ◌∷◌}
use Rattle.std.specs.Cmp.Lexicographic.{slice_cmp}
use Rattle.std.specs.Ordering.{nat_cmp}
use Rattle.std.specs.declared.cmp.Ordering.{Ordering}
use Rattle.std.specs.declared.cmp.Ordering.TheVariants.{Less, Equal, Greater}

-- a path beside another, and what comes of the others with it: the later section comes first, and a path that is there stays once
abbrev pub placed_by : Ordering → (path other : List ℕ) → (others placed : List (List ℕ)) → List (List ℕ)
placed_by Less path other others placed = other ∷ placed
placed_by Equal path other others placed = other ∷ others
placed_by Greater path other others placed = path ∷ other ∷ others

-- a path among others of which the later come first; of two sections the one with the greater number is later, and one inside another
-- is later than that
abbrev pub placed_among : List ℕ → List (List ℕ) → List (List ℕ)
placed_among path [] = path ∷ []
placed_among path (other ∷ others) = placed_by (slice_cmp nat_cmp path other) path other others (placed_among path others)

-- paths put among others, one after another
abbrev pub latest_among : List (List ℕ) → List (List ℕ) → List (List ℕ)
latest_among placed [] = placed
latest_among placed (path ∷ paths) = latest_among (placed_among path placed) paths

-- paths, each once, the later first
abbrev pub latest_first : List (List ℕ) → List (List ℕ)
latest_first paths = latest_among [] paths
