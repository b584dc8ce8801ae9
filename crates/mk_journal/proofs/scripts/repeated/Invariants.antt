use Rattle.std.proofs.Common.{◌≡◌, ◌++◌, ◌-◌}
use Rattle.mk_journal.specs.AllSteps.{times}
use Rattle.mk_journal.proofs.scripts.repeated.Given as goal

abbrev pub invariant-loop : goal.invariant-loop
invariant-loop l = l.text.items ++ times l.line (l.count - l.counter) ≡ times l.line l.count
