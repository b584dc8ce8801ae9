use Rattle.std.proofs.Common.{◌≡◌, ◌++◌, ◌≤◌, drop}
use Rattle.mk_head.specs.Depths.{depth_of}
use Rattle.mk_wording.specs.AddressLists.{address_lines}
use Rattle.mk_wording.specs.inner.ReaderViews.{lines_to_come}
use Rattle.mk_wording.specs.inner.ScanViews.{scan_of}
use Rattle.mk_wording.proofs.address_lists.push_addresses.Given as goal

abbrev pub invariant-loop-byte : goal.invariant-loop-byte
invariant-loop-byte l = record {
  lines : l.text.items ++ lines_to_come l.reader (drop l.byte-index l.value) ≡ l.fn.text.items ++ address_lines l.value;
  depth : depth_of (scan_of l.reader.scan) ≤ l.byte-index;
}
