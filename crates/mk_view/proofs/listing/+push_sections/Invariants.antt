use Rattle.std.proofs.Common.{◌≡◌, ◌++◌, ◌<◌, ◌≤◌, ◌^◌, length}
use Rattle.std.specs.List.{flat_map}
use Rattle.mk_tree.specs.Sections.{body_lines, children}
use Rattle.mk_view.specs.Listed.{along, depth, greatest_number, listed_from}
use Rattle.mk_view.specs.Listing.{listing_line}
use Rattle.mk_view.proofs.Depths.{AreLower}
use Rattle.mk_view.proofs.Gaps.{IsLeft}
use Rattle.mk_view.proofs.listing.+push_sections.Given as goal

abbrev pub decreases-push_sections : goal.decreases-push_sections
decreases-push_sections l = depth l.section.now.entity

abbrev pub invariant-loop-child : goal.invariant-loop-child
invariant-loop-child l = record {
  lower : AreLower (depth l.section.entity) l.child-iterator;
  fits : l.number ≤ greatest_number;
  lines :
      l.below.items ++ flat_map listing_line (along listed_from l.path l.number l.child-iterator)
      ≡ flat_map listing_line (along listed_from l.path 1 (children l.section));
  kept : l.lines.items ≡ l.fn.lines.items;
  few : length (body_lines l.section.entity) < 2 ^ 64;
  left : IsLeft (length (body_lines l.section.entity)) l.place l.count l.rest l.child-iterator;
}
