use Rattle.std.proofs.Common.{◌≡◌, ◌++◌, map}
use Rattle.std.specs.Vec.Iter.{into_iter_items}
use Rattle.mk_script.specs.ScriptSteps.{edits_in, first_other}
use Rattle.mk_script.specs.ScriptViews.{numbered}
use Rattle.mk_script.specs.inner.Lines.{line_in}
use Rattle.mk_script.proofs.groups.edits.Given as goal

abbrev pub invariant-loop-line : goal.invariant-loop-line
invariant-loop-line l = record {
  rest : first_other (map line_in (into_iter_items l.line-iterator)) ≡ first_other (map line_in l.fn.lines.items);
  done : map numbered l.words.items ++ edits_in (map line_in (into_iter_items l.line-iterator)) ≡ edits_in (map line_in l.fn.lines.items);
}
