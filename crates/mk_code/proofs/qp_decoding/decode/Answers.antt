use Rattle.std.proofs.Common.{◌∙◌}
use Rattle.mk_line.specs.Views.{line_of}
use Rattle.mk_code.proofs.Unquoting.{step_line}
use Rattle.mk_code.proofs.qp_decoding.decode.Goals as goal

pub loop-line-preserved : goal.loop-line-preserved
loop-line-preserved c =
    step_line c.loop-line.line-iterator c.next.new.self (line_of c.in-Some.line) c.bytes.result.now c.loop-line.out.items _ c.in-Some.ensures.steps c.bytes.ensures c.in_ok-push_line.ensures
    ∙ c.loop-line.invariant
