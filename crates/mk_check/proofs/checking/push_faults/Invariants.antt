use Rattle.std.proofs.Common.{◌≡◌, ◌++◌, drop, map}
use Rattle.std.specs.List.{flat_map}
use Rattle.mk_check.specs.FindingLines.{finding_line}
use Rattle.mk_check.specs.inner.FoundViews.{found_of}
use Rattle.mk_check.proofs.checking.push_faults.Given as goal

abbrev pub invariant-loop-finding : goal.invariant-loop-finding
invariant-loop-finding l = l.text.items ++ flat_map (finding_line l.form l.path) (map found_of (drop l.finding-index l.finding-items)) ≡ l.fn.text.items ++ flat_map (finding_line l.form l.path) (map found_of l.finding-items)
