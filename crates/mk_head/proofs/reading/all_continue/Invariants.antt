use Rattle.std.proofs.Common.{◌≡◌}
use Rattle.std.specs.List.{list_all}
use Rattle.mk_head.specs.Split.{is_more}
use Rattle.mk_head.proofs.reading.all_continue.Given as goal

abbrev pub invariant-loop-line : goal.invariant-loop-line
invariant-loop-line l = list_all is_more l.line-iterator ≡ list_all is_more l.fn.lines
