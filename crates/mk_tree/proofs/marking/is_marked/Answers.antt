use Rattle.std.proofs.Common.{sym, ◌∙◌}
use Rattle.mk_line.specs.Views.{line_of}
use Rattle.mk_tree.proofs.Marked.{unmarked, marked_here, unmarked_here}
use Rattle.mk_tree.proofs.marking.is_marked.Goals as goal

pub returns-then-not-starts_with : goal.returns-then-not-starts_with
returns-then-not-starts_with c = sym (unmarked _ (line_of c.args.line.now) (sym c.starts_with.ensures.value ∙ c.if-not-starts_with.true))

pub returns-then-is_mark : goal.returns-then-is_mark
returns-then-is_mark c =
    marked_here c.args.opened.now c.loop-boundary.boundary-index _ (line_of c.args.line.now) c.trimmed-content.result.now c.is_mark.result
    c.trimmed-content.ensures c.loop-boundary-test.true c.is_mark.ensures c.if-is_mark.true c.loop-boundary.invariant

pub loop-boundary-preserved : goal.loop-boundary-preserved
loop-boundary-preserved c =
    unmarked_here c.args.opened.now c.loop-boundary.boundary-index _ (line_of c.args.line.now) c.trimmed-content.result.now c.is_mark.result
    c.trimmed-content.ensures c.loop-boundary-test.true c.is_mark.ensures c.if-is_mark.false c.loop-boundary.invariant
