use Rattle.std.proofs.Common.{◌≡◌, ◌≤◌, drop, false, length, nat_lt}
use Rattle.mk_head.specs.Values.{Plain, uncommented}
use Rattle.mk_head.specs.ValueViews.{scan_of}
use Rattle.mk_head.specs.Depths.{depth_of}
use Rattle.mk_head.proofs.Names.{completes}
use Rattle.mk_head.proofs.naming.is_named.Given as goal

abbrev pub invariant-loop-byte : goal.invariant-loop-byte
invariant-loop-byte l = record {
  rest : completes (nat_lt 0 l.count) (drop l.count l.name) (uncommented (scan_of l.scan) (drop l.byte-index l.value)) ≡ completes false l.name (uncommented Plain l.value);
  within : l.count ≤ length l.name;
  depth : depth_of (scan_of l.scan) ≤ l.byte-index;
}
