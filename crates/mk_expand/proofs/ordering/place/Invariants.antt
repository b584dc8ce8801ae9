use Rattle.std.proofs.Common.{◌≡◌, ◌++◌}
use Rattle.std.specs.Option.{option_map}
use Rattle.std.specs.Vec.Iter.{into_iter_items}
use Rattle.mk_script.specs.ScriptViews.{items_of}
use Rattle.mk_expand.specs.Paths.{placed_among}
use Rattle.mk_expand.proofs.PathsPlaced.{with_waiting}
use Rattle.mk_expand.proofs.ordering.place.Given as goal

abbrev pub invariant-loop-other : goal.invariant-loop-other
invariant-loop-other l = items_of l.placed.items ++ with_waiting (option_map (λ v. v.items) l.waiting) (items_of (into_iter_items l.other-iterator)) ≡ placed_among l.fn.path.items (items_of l.fn.list.items)
