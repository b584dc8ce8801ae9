use Rattle.std.proofs.Common.{◌≡◌, ◌≤◌, ◌+◌}
use Rattle.mk_tree.specs.Sections.{children}
use Rattle.mk_decide.specs.KindsKept.{all_keep, lines_of_others}
use Rattle.mk_decide.proofs.kinds_kept.parts_keep_kinds.Given as goal

abbrev pub invariant-loop-part : goal.invariant-loop-part
invariant-loop-part l = record {
  keep : all_keep l.digest l.part-iterator ≡ all_keep l.digest (children l.section);
  looked : l.meter + lines_of_others l.digest l.part-iterator ≤ l.fn.meter + lines_of_others l.digest (children l.section);
}
