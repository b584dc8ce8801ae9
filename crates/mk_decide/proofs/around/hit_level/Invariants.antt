use Rattle.std.proofs.Common.{◌≡◌, ◌+◌, drop}
use Rattle.mk_line.specs.Lines.{cut as lines_of}
use Rattle.mk_tree.specs.Documents.{tree}
use Rattle.mk_tree.specs.Sections.{root_of}
use Rattle.mk_decide.specs.Around.{hit_below}
use Rattle.mk_decide.proofs.around.hit_level.Given as goal

abbrev pub invariant-loop-number : goal.invariant-loop-number
invariant-loop-number l = record {
  rest : hit_below (lines_of l.text) l.level (drop l.number-index l.numbers) l.section ≡ hit_below (lines_of l.text) 1 l.numbers (root_of (tree l.doc));
  level : l.level ≡ l.number-index + 1;
}
