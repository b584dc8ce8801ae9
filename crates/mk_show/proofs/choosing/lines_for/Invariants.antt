use Rattle.std.proofs.Common.{◌≡◌, ◌++◌, drop}
use Rattle.std.specs.List.{flat_map}
use Rattle.mk_tree.specs.Documents.{tree}
use Rattle.mk_show.specs.Chosen.{missing_line}
use Rattle.mk_script.specs.ScriptViews.{items_of}
use Rattle.mk_show.proofs.choosing.lines_for.Given as goal

abbrev pub invariant-loop-path : goal.invariant-loop-path
invariant-loop-path l = l.lines.items ++ flat_map (missing_line (tree l.doc)) (items_of (drop l.path-index l.paths)) ≡ flat_map (missing_line (tree l.doc)) (items_of l.paths)
