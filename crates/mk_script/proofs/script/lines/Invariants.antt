use Rattle.std.proofs.Common.{◌≡◌, ◌≤◌, ◌+◌, ◌++◌, length, map}
use Rattle.mk_script.specs.Script.{lines_of, lines_from}
use Rattle.mk_script.specs.inner.Lines.{line_in}
use Rattle.mk_script.proofs.script.lines.Given as goal

abbrev pub invariant-loop-line : goal.invariant-loop-line
invariant-loop-line l = record {
  told : map line_in l.all.items ++ lines_from l.pieces (l.number + 1) l.line-iterator ≡ lines_of l.pieces l.script;
  few : l.number + length l.line-iterator ≤ length l.script;
}
