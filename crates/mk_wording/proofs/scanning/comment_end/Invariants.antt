use Rattle.std.proofs.Common.{◌≡◌, ◌++◌, ◌+◌, ◌≤◌, drop, take}
use Rattle.mk_head.specs.Depths.{depth_of}
use Rattle.mk_head.specs.Values.{Comment}
use Rattle.mk_wording.specs.inner.ScanViews.{closing_of, inside_of, scan_of}
use Rattle.mk_wording.proofs.scanning.comment_end.Given as goal

abbrev pub invariant-loop-place : goal.invariant-loop-place
invariant-loop-place l = record {
  front : take l.place l.text ++ inside_of (scan_of l.scan) (drop l.place l.text) ≡ inside_of (Comment 0) l.text;
  rest : closing_of (scan_of l.scan) (drop l.place l.text) ≡ closing_of (Comment 0) l.text;
  depth : depth_of (scan_of l.scan) ≤ l.place + 1;
}
