use Rattle.std.proofs.Common.{◌≡◌, ◌≤◌, length, take}
use Rattle.mk_line.specs.Marks.{trimmed as without_blanks}
use Rattle.mk_line.proofs.marks.trimmed.Given as goal

abbrev pub invariant-loop-size : goal.invariant-loop-size
invariant-loop-size l = record {
  within : l.size ≤ length l.content;
  kept : without_blanks (take l.size l.content) ≡ without_blanks l.content;
}

abbrev pub decreases-loop-size : goal.decreases-loop-size
decreases-loop-size l = l.size
