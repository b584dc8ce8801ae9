-- What stands around a section, on the way to it from the root.
use Rattle.std.specs.Prelude.{◌+◌, if◌then◌else◌, ℕ, Bool, false, not, Option, None, Some, List, [], ◌∷◌, option_and_then}
use Rattle.mk_line.specs.Lines.{TextLine}
use Rattle.mk_head.specs.Fields.{counted}
use Rattle.mk_tree.specs.Tree.{Entity, leaf, message, multi}
use Rattle.mk_tree.specs.Sections.{Placed, boundary_in, children}
use Rattle.mk_decide.specs.Outcomes.{has_mark}
use Rattle.mk_decide.specs.Looks.{has_separator}

-- some line is a mark of a boundary, where there is one
abbrev pub marks_any : List TextLine → Option (List ℕ) → Bool
marks_any ls None = false
marks_any ls (Some b) = has_mark b ls

-- the level of the outermost multipart on the way that a line is a mark of, where the first section has level `level`;
-- the section at the end is left out
abbrev pub hit_below : List TextLine → ℕ → List ℕ → Placed → Option ℕ
hit_below ls level [] p = None
hit_below ls level (k ∷ ks) p = if marks_any ls (boundary_in p.entity) then Some level else option_and_then (hit_below ls (level + 1) ks) (counted k (children p))

-- a message whose fields have no separator after them
abbrev pub glues : Entity → Bool
glues (leaf h ls) = false
glues (message h e) = not (has_separator h.separator)
glues (multi h b pre ps t) = false

-- what holds of a section, where there is one
abbrev pub or_false : (Placed → Bool) → Option Placed → Bool
or_false f None = false
or_false f (Some p) = f p

-- whether the last section on the way, before the one at the end, is such a message
abbrev pub glued_below : Bool → List ℕ → Placed → Bool
glued_below glued [] p = glued
glued_below glued (k ∷ ks) p = or_false (glued_below (glues p.entity) ks) (counted k (children p))
