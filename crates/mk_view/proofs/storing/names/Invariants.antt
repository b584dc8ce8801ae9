use Rattle.std.proofs.Common.{◌≡◌, map}
use Rattle.mk_view.specs.LeafViews.{leaf_view}
use Rattle.mk_view.specs.NameViews.{named_view}
use Rattle.mk_view.proofs.storing.names.Given as goal

abbrev pub invariant-loop-leaf : goal.invariant-loop-leaf
invariant-loop-leaf l = map named_view l.names.items ≡ map leaf_view l.yielded
