use Rattle.std.proofs.Common.{◌≡◌, ◌++◌, ◌≤◌, drop, take}
use Rattle.mk_head.specs.Values.{Plain}
use Rattle.mk_head.specs.ValueViews.{scan_of}
use Rattle.mk_head.specs.Depths.{depth_of, first_piece, other_pieces}
use Rattle.mk_head.proofs.scanning.scanned_end.Given as goal

abbrev pub invariant-loop-place : goal.invariant-loop-place
invariant-loop-place l = record {
  front : take l.place l.text ++ first_piece (scan_of l.scan) (drop l.place l.text) ≡ first_piece Plain l.text;
  rest : other_pieces (scan_of l.scan) (drop l.place l.text) ≡ other_pieces Plain l.text;
  depth : depth_of (scan_of l.scan) ≤ l.place;
}
