-- What stands below a section has fewer levels.
use Rattle.std.proofs.Common.{◌+◌, ◌<◌, ℕ, suc, Bool, List, [], ◌∷◌, arith}
use Rattle.mk_tree.specs.Spans.{size}
use Rattle.mk_tree.specs.Tree.{Entity, leaf, message, multi, Parts, no_parts, part, print}
use Rattle.mk_tree.specs.Sections.{Placed, parts_placed, children_of, children}
use Rattle.mk_view.specs.Listed.{depth, deepest}

-- all of some sections have fewer levels than a number
abbrev pub AreLower : ℕ → List Placed → Type 0
AreLower n [] = Unit {0}
AreLower n (p ∷ ps) = (depth p.entity < n) × AreLower n ps

parts_lower : (n place : ℕ) (followed digest : Bool) (ps : Parts) → deepest ps < n → AreLower n (parts_placed place followed digest ps)
parts_lower n place followed digest no_parts h = tt
parts_lower n place followed digest (part l e ps) h =
    (omega arith, parts_lower n (place + size (l ∷ []) + size (print e)) followed digest ps (omega arith))

children_lower : (p : Placed) (e : Entity) → AreLower (depth e) (children_of p e)
children_lower p (leaf h ls) = tt
children_lower p (message h e) = (omega arith, tt)
children_lower p (multi h b pre ps t) = parts_lower (suc (deepest ps)) _ _ _ ps (omega arith)

-- the sections directly below a section have fewer levels than it
pub are_lower : (p : Placed) → AreLower (depth p.entity) (children p)
are_lower p = children_lower p p.entity

some_level : (e : Entity) → 0 < depth e
some_level (leaf h ls) = omega arith
some_level (message h e) = omega arith
some_level (multi h b pre ps t) = omega arith

pub has_level : (p : Placed) → 0 < depth p.entity
has_level p = some_level p.entity
