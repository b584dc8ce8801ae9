use Rattle.std.proofs.Common.{◌≡◌, ◌++◌, map}
use Rattle.std.specs.Vec.Iter.{into_iter_items}
use Rattle.mk_decide.specs.Edits.{RemovePart}
use Rattle.mk_script.specs.ScriptViews.{items_of}
use Rattle.mk_expand.specs.Paths.{latest_first}
use Rattle.mk_expand.specs.Views.{plain_edits}
use Rattle.mk_expand.proofs.ordering.removals.Given as goal

abbrev pub invariant-loop-path : goal.invariant-loop-path
invariant-loop-path l = plain_edits l.edits.items ++ map (λ path. RemovePart path) (items_of (into_iter_items l.path-iterator)) ≡ map (λ path. RemovePart path) (latest_first (items_of l.fn.paths))
