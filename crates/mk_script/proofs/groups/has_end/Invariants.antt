use Rattle.std.proofs.Common.{◌≡◌, map, drop}
use Rattle.mk_script.specs.ScriptSteps.{has_end}
use Rattle.mk_script.specs.inner.Lines.{line_in}
use Rattle.mk_script.proofs.groups.has_end.Given as goal

abbrev pub invariant-loop-line : goal.invariant-loop-line
invariant-loop-line l = has_end (map line_in (drop l.line-index l.lines)) ≡ has_end (map line_in l.lines)
