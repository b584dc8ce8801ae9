use Rattle.std.proofs.Common.{◌∙◌, sym, arith, drop, length-drop}
use Rattle.mk_line.specs.Lines.{cut as lines_of}
use Rattle.mk_decide.proofs.SectionsAround.{hit_now}
use Rattle.mk_decide.proofs.around.hit_level.Goals as goal

pub returns-then-is_hit : goal.returns-then-is_hit
returns-then-is_hit c =
    let n = c.loop-number.number-index in
    let numbers = c.args.numbers.now in
    sym (hit_now (lines_of c.args.text.now) c.loop-number.level (drop n numbers) c.loop-number.section (omega (arith, c.loop-number-test.true, length-drop n numbers)) (sym c.is_hit.ensures ∙ c.if-is_hit.true))
    ∙ c.loop-number.invariant.rest
