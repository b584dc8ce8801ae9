use Rattle.mk_line.specs.Views.{line_of}
use Rattle.mk_code.proofs.PieceLines.{lines_more}
use Rattle.mk_code.proofs.piecewise.push_first_lines.Goals as goal

pub each-preserved : goal.each-preserved
each-preserved c =
    lines_more c.args.text.now c.each.rest.now c.in-Some.following.now c.each.bytes.items _ c.bytes.result.now (line_of c.in-Some.line)
    c.in-Some.ensures.some c.bytes.ensures c.in_ok-push_line.ensures c.in-Some.ensures.less c.each.invariant
