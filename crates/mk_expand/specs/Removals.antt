-- Several parts removed at once: in which order they go, and what is left (own).
use Rattle.std.specs.Prelude.{◌≡◌, ◌==◌, ◌+◌, ◌⊎◌, if◌then◌else◌, ℕ, Bool, true, false, List, [], ◌∷◌}
use Rattle.std.specs.Cmp.Lexicographic.{slice_cmp}
use Rattle.std.specs.Ordering.{nat_cmp}
use Rattle.std.specs.declared.cmp.Ordering.TheVariants.{Less}
use Rattle.mk_tree.specs.Tree.{Entity, leaf, message, multi, Parts, no_parts, part}

-- each of some paths comes before a path
abbrev pub IsLater : List ℕ → List (List ℕ) → Type 0
IsLater path [] = Unit {0}
IsLater path (other ∷ others) = (slice_cmp nat_cmp other path ≡ Less) × IsLater path others

-- each of some paths is later than those after it
abbrev pub AreLatestFirst : List (List ℕ) → Type 0
AreLatestFirst [] = Unit {0}
AreLatestFirst (path ∷ paths) = IsLater path paths × AreLatestFirst paths

-- a path is one of some
abbrev pub IsAmong : List ℕ → List (List ℕ) → Type 0
IsAmong path [] = ⊥
IsAmong path (other ∷ others) = (path ≡ other) ⊎ IsAmong path others

-- of paths that begin with a number, what follows it
abbrev pub paths_after : ℕ → List (List ℕ) → List (List ℕ)
paths_after number [] = []
paths_after number ([] ∷ paths) = paths_after number paths
paths_after number ((first ∷ others) ∷ paths) = if first == number then others ∷ paths_after number paths else paths_after number paths

-- one of some paths is empty
abbrev pub has_empty : List (List ℕ) → Bool
has_empty [] = false
has_empty ([] ∷ paths) = true
has_empty ((first ∷ others) ∷ paths) = has_empty paths

abbrev mutual
  -- an entity without the parts at paths below it
  pub without_those : List (List ℕ) → Entity → Entity
  without_those paths (leaf h ls) = leaf h ls
  without_those paths (message h e) = message h (without_those (paths_after 1 paths) e)
  without_those paths (multi h b pre ps t) = multi h b pre (parts_without paths 1 ps) t

  -- parts, numbered from here on, without those at paths
  pub parts_without : List (List ℕ) → ℕ → Parts → Parts
  parts_without paths number no_parts = no_parts
  parts_without paths number (part l e ps) =
      if has_empty (paths_after number paths) then parts_without paths (number + 1) ps
      else part l (without_those (paths_after number paths) e) (parts_without paths (number + 1) ps)
