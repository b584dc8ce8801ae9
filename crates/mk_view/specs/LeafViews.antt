-- Leaves in memory as what they say, and their places in a document.
use Rattle.std.specs.Prelude.{◌≡◌, Some, List, [], ◌∷◌}
use Rattle.mk_tree.specs.Documents.{Document}
use Rattle.mk_tree.specs.Sections.{section_at}
use Rattle.mk_view.specs.declared.storing.Leaf.{Leaf}
use Rattle.mk_view.specs.FileNames.{Named}

-- a leaf as its path and its name
abbrev pub leaf_view : Leaf → Named
leaf_view l = (l.path.items, l.name.items)

-- its section stands at its path in a document
abbrev pub IsAt : Document → Leaf → Type 0
IsAt t l = section_at l.path.items t ≡ Some l.section

-- so it is of all leaves
abbrev pub AreAt : Document → List Leaf → Type 0
AreAt t [] = Unit {0}
AreAt t (l ∷ ls) = IsAt t l × AreAt t ls
