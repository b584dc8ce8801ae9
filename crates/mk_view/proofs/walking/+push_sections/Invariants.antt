use Rattle.std.proofs.Common.{◌≡◌, ◌++◌, ◌≤◌, Some, map}
use Rattle.mk_tree.specs.Documents.{Document}
use Rattle.mk_tree.specs.Sections.{children, section_at}
use Rattle.mk_view.specs.Listed.{along, depth, greatest_number, listed_from}
use Rattle.mk_view.specs.ListedViews.{AreListedAt, listed_view}
use Rattle.mk_view.proofs.Depths.{AreLower}
use Rattle.mk_view.proofs.LeavesAt.{AreFrom}
use Rattle.mk_view.proofs.walking.+push_sections.Given as goal

abbrev pub decreases-push_sections : goal.decreases-push_sections
decreases-push_sections l = depth l.section.entity

abbrev pub invariant-loop-child : goal.invariant-loop-child
invariant-loop-child l = record {
  lower : AreLower (depth l.fn.section.entity) l.child-iterator;
  fits : l.number ≤ greatest_number;
  listed : map listed_view l.found.items ++ along listed_from l.path l.number l.child-iterator ≡ map listed_view l.fn.found.items ++ listed_from l.path l.fn.section;
  from : AreFrom l.number (children l.fn.section) l.child-iterator;
  placed : (t : Document) → section_at l.path t ≡ Some l.fn.section → AreListedAt t l.fn.found.items → AreListedAt t l.found.items;
}
