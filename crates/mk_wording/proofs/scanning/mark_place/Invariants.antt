use Rattle.std.proofs.Common.{◌≡◌, ◌++◌, ◌≤◌, drop, take}
use Rattle.mk_head.specs.Depths.{depth_of}
use Rattle.mk_head.specs.Values.{Plain}
use Rattle.mk_wording.specs.Scanned.{before_mark, from_mark}
use Rattle.mk_wording.specs.inner.ScanViews.{scan_of}
use Rattle.mk_wording.proofs.scanning.mark_place.Given as goal

abbrev pub invariant-loop-place : goal.invariant-loop-place
invariant-loop-place l = record {
  front : take l.place l.text ++ before_mark l.marks (scan_of l.scan) (drop l.place l.text) ≡ before_mark l.marks Plain l.text;
  rest : from_mark l.marks (scan_of l.scan) (drop l.place l.text) ≡ from_mark l.marks Plain l.text;
  depth : depth_of (scan_of l.scan) ≤ l.place;
}
