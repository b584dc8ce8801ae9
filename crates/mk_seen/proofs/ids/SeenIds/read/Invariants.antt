use Rattle.std.proofs.Common.{◌≡◌}
use Rattle.std.specs.FinSet as set
use Rattle.mk_line.specs.Lines.{cut}
use Rattle.mk_seen.proofs.KeysSeen.{with_ids}
use Rattle.mk_seen.proofs.ids.SeenIds.read.Given as goal

abbrev pub invariant-loop-line : goal.invariant-loop-line
invariant-loop-line l = with_ids l.seen l.line-iterator ≡ with_ids set.empty (cut l.file)
