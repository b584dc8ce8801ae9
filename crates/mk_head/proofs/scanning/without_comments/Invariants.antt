use Rattle.std.proofs.Common.{◌≡◌, ◌++◌, ◌≤◌, drop}
use Rattle.mk_head.specs.Values.{Plain, uncommented}
use Rattle.mk_head.specs.ValueViews.{scan_of}
use Rattle.mk_head.specs.Depths.{depth_of}
use Rattle.mk_head.proofs.scanning.without_comments.Given as goal

abbrev pub invariant-loop-byte : goal.invariant-loop-byte
invariant-loop-byte l = record {
  text : l.text.items ++ uncommented (scan_of l.scan) (drop l.byte-index l.value) ≡ uncommented Plain l.value;
  depth : depth_of (scan_of l.scan) ≤ l.byte-index;
}
