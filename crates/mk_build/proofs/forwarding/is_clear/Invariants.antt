use Rattle.std.proofs.Common.{◌≡◌, not, nat_eq}
use Rattle.std.specs.List.{list_all, starts_with}
use Rattle.mk_line.specs.Lines.{cut as lines_of}
use Rattle.mk_line.specs.Marks.{dashed}
use Rattle.mk_build.proofs.forwarding.is_clear.Given as goal

abbrev pub invariant-loop-line : goal.invariant-loop-line
invariant-loop-line l = list_all (λ m. not (starts_with nat_eq m.content (dashed l.boundary))) l.line-iterator ≡ list_all (λ m. not (starts_with nat_eq m.content (dashed l.boundary))) (lines_of l.text)
