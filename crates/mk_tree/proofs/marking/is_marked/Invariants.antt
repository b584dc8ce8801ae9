use Rattle.std.proofs.Common.{◌≡◌, drop}
use Rattle.mk_line.specs.Views.{line_of}
use Rattle.mk_tree.specs.Upto.{is_marked as marked}
use Rattle.mk_tree.specs.Steps.{boundaries_of}
use Rattle.mk_tree.proofs.marking.is_marked.Given as goal

abbrev pub invariant-loop-boundary : goal.invariant-loop-boundary
invariant-loop-boundary l = marked (boundaries_of (drop l.boundary-index l.opened)) (line_of l.line) ≡ marked (boundaries_of l.opened) (line_of l.line)
