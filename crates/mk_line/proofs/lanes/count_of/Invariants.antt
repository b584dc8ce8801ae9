use Rattle.std.proofs.Common.{◌≡◌, ◌+◌, ◌-◌, ◌≤◌, length, drop, count_by}
use Rattle.mk_line.proofs.lanes.count_of.Given as goal

abbrev pub invariant-each : goal.invariant-each
invariant-each g l = record {
  count : l.count + count_by g.C.ByteClass.members (drop l.place l.text) ≡ count_by g.C.ByteClass.members l.text;
  few : l.count ≤ l.place;
  within : l.place ≤ length l.text;
}

abbrev pub decreases-each : goal.decreases-each
decreases-each g l = length l.text - l.place
