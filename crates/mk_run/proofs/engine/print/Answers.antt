use Rattle.std.proofs.lemmas.Result.{err_from_is_err_and}
use Rattle.mk_transfer.proofs.Fronts.{AppendsFront-whole}
use Rattle.mk_run.proofs.engine.print.Goals as goal

pub returns-in_err-send-2-clause-output_front : goal.returns-in_err-send-2-clause-output_front
returns-in_err-send-2-clause-output_front g c =
    let stopped = err_from_is_err_and c.from_residual-in_err-send-2.result c.from_residual-in_err-send-2.ensures.1 in
    rw stopped.1 (AppendsFront-whole _ _ _ c.in_ok-send.ensures.sends.whole)
