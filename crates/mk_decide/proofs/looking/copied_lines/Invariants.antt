use Rattle.std.proofs.Common.{◌≡◌, ◌+◌, ◌-◌, ◌≤◌, length, drop, take}
use Rattle.mk_line.specs.Lines.{cut as lines_of}
use Rattle.mk_line.specs.Views.{BeginsLine}
use Rattle.mk_decide.proofs.looking.copied_lines.Given as goal

abbrev pub invariant-each : goal.invariant-each
invariant-each l = record {
  begins : BeginsLine l.text l.place;
  copied : l.copy.items ≡ take l.place l.text;
  looked : l.meter + length (lines_of (drop l.place l.text)) ≤ l.fn.meter + length (lines_of l.text);
}

abbrev pub decreases-each : goal.decreases-each
decreases-each l = length l.text - l.place
