use Rattle.std.proofs.Common.{◌≡◌, ◌++◌, None, map}
use Rattle.std.specs.Option.{option_map}
use Rattle.std.specs.Vec.Iter.{into_iter_items}
use Rattle.mk_script.specs.ScriptSteps.{steps_from}
use Rattle.mk_script.specs.ScriptViews.{numbered, step_by}
use Rattle.mk_script.specs.inner.Lines.{line_in}
use Rattle.mk_script.proofs.groups.grouped.Given as goal

abbrev pub invariant-loop-line : goal.invariant-loop-line
invariant-loop-line l = map step_by l.all.items ++ steps_from (option_map (λ words. map numbered words.items) l.open) (map line_in (into_iter_items l.line-iterator)) ≡ steps_from None (map line_in l.fn.lines.items)
