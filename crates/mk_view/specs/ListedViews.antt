-- Sections in memory with their paths, and their places in a document.
use Rattle.std.specs.Prelude.{◌≡◌, Some, List, [], ◌∷◌}
use Rattle.mk_tree.specs.Documents.{Document}
use Rattle.mk_tree.specs.Sections.{section_at}
use Rattle.mk_view.specs.declared.walking.Listed.{Listed as HeldListed}
use Rattle.mk_view.specs.Listed.{Listed}

-- a section and its path, as plain data
abbrev pub listed_view : HeldListed → Listed
listed_view l = record { path = l.path.items; section = l.section }

-- each section stands at its path in a document
abbrev pub AreListedAt : Document → List HeldListed → Type 0
AreListedAt t [] = Unit {0}
AreListedAt t (l ∷ ls) = (section_at l.path.items t ≡ Some l.section) × AreListedAt t ls
