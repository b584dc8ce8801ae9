use Rattle.std.proofs.Common.{◌≡◌, ◌+◌, ◌-◌, ◌≤◌, length, drop}
use Rattle.std.specs.List.{prefix_len}
use Rattle.mk_line.proofs.lanes.run_of.Given as goal

abbrev pub invariant-each : goal.invariant-each
invariant-each g l = record {
  front : prefix_len g.C.ByteClass.members l.text ≡ l.size + prefix_len g.C.ByteClass.members (drop l.size l.text);
  within : l.size ≤ length l.text;
}

abbrev pub decreases-each : goal.decreases-each
decreases-each g l = length l.text - l.size
