-- The sections of a document in its order, each with its path (own).
use Rattle.std.specs.Prelude.{◌+◌, ◌++◌, if◌then◌else◌, ℕ, zero, suc, max, nat_le, List, [], ◌∷◌}
use Rattle.mk_tree.specs.Tree.{Entity, leaf, message, multi, Parts, no_parts, part}
use Rattle.mk_tree.specs.Sections.{Placed, children, root_of}
use Rattle.mk_tree.specs.Documents.{Document}

-- a section and its path
pub record Listed : Type 0 where
  pub path : List ℕ
  pub section : Placed

abbrev mutual
  -- how many levels an entity has, its own included
  pub depth : Entity → ℕ
  depth (leaf h ls) = 1
  depth (message h e) = suc (depth e)
  depth (multi h b pre ps t) = suc (deepest ps)

  -- how many levels the deepest of some parts has
  pub deepest : Parts → ℕ
  deepest no_parts = 0
  deepest (part l e ps) = max (depth e) (deepest ps)

-- the greatest number that a path can hold
abbrev pub greatest_number : ℕ
greatest_number = 4294967295

-- what a function gives for sections one after another, of which the first has a number below a path; from the first on
-- whose number a path can't hold they are left out
abbrev pub along : (List ℕ → Placed → List Listed) → List ℕ → ℕ → List Placed → List Listed
along f path number [] = []
along f path number (p ∷ ps) = if nat_le number greatest_number then f (path ++ number ∷ []) p ++ along f path (number + 1) ps else []

-- a section at a path and those below it, each before those below it, so many levels in all
abbrev pub listed_within : ℕ → List ℕ → Placed → List Listed
listed_within zero path p = []
listed_within (suc levels) path p = record { path = path; section = p } ∷ along (listed_within levels) path 1 (children p)

-- a section at a path and all that are below it
unfoldable pub listed_from : List ℕ → Placed → List Listed
listed_from path p = listed_within (depth p.entity) path p

-- the sections of a document; the root's path is 1
abbrev pub listed : Document → List Listed
listed t = listed_from (1 ∷ []) (root_of t)
