use Rattle.std.proofs.Common.{◌≡◌, ◌-◌}
use Rattle.mk_decide.specs.WrapAnswers.{fits_levels, all_fit}
use Rattle.mk_decide.proofs.wrap_edits.+fits_levels.Given as goal

abbrev pub decreases-fits_levels : goal.decreases-fits_levels
decreases-fits_levels l = l.left

abbrev pub invariant-loop-child : goal.invariant-loop-child
invariant-loop-child l = all_fit (l.left - 1) l.child-iterator ≡ fits_levels l.left l.section.entity
