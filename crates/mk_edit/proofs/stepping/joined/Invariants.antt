use Rattle.std.proofs.Common.{◌≡◌, ◌++◌, map, take}
use Rattle.std.specs.Vec.Iter.{into_iter_items}
use Rattle.mk_edit.specs.Histories.{all_splices}
use Rattle.mk_splice.specs.Views.{splice_of, steps_of}
use Rattle.mk_edit.proofs.stepping.joined.Given as goal

abbrev pub invariant-loop-step : goal.invariant-loop-step
invariant-loop-step l = map splice_of l.all.items ++ all_splices (steps_of (into_iter_items l.step-iterator)) ≡ all_splices (take l.count (steps_of l.fn.steps.items))
