use Rattle.std.proofs.Common.{◌≡◌, ◌++◌}
use Rattle.std.specs.List.{flat_map}
use Rattle.mk_line.specs.Lines.{printed_line}
use Rattle.mk_each.specs.Labels.{labelled}
use Rattle.mk_each.proofs.labels.push_labelled.Given as goal

abbrev pub invariant-loop-line : goal.invariant-loop-line
invariant-loop-line l = l.text.items ++ flat_map (λ t. l.label ++ printed_line t) l.line-iterator ≡ l.fn.text.items ++ labelled l.label l.lines
