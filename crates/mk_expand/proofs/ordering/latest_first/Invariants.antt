use Rattle.std.proofs.Common.{◌≡◌, drop}
use Rattle.mk_script.specs.ScriptViews.{items_of}
use Rattle.mk_expand.specs.Paths.{latest_among, latest_first}
use Rattle.mk_expand.proofs.ordering.latest_first.Given as goal

abbrev pub invariant-loop-path : goal.invariant-loop-path
invariant-loop-path l = latest_among (items_of l.list.items) (items_of (drop l.path-index l.paths)) ≡ latest_first (items_of l.paths)
