use Rattle.std.proofs.Common.{sym, subst}
use Rattle.std.proofs.lemmas.Result.{err_from_is_err_and}
use Rattle.mk_transfer.specs.RunClauses.{IsStopped}
use Rattle.mk_field.specs.inner.Telling.{printed_text}
use Rattle.mk_field.proofs.GatheredLemmas.{one_stopped, two_sent}
use Rattle.mk_field.proofs.telling.send_printed.Goals as goal

pub returns-in_err-send-clause-sends : goal.returns-in_err-send-clause-sends
returns-in_err-send-clause-sends g c =
    let stopped = err_from_is_err_and c.from_residual.result c.from_residual.ensures.1 in
    rw stopped.1
    (subst (λ stop. IsStopped stop (printed_text c.args.text.now) (g.O.Sink.contents c.args.out.now) (g.O.Sink.contents c.send.new.out) (g.O.Sink.failures c.args.out.now) (g.O.Sink.failures c.send.new.out)) (sym stopped.2)
    (one_stopped _ c.parts.result.0.now c.parts.result.1.now _ _ _ _ _ c.parts.ensures c.in_err-send.ensures.sends))

pub returns-clause-sends : goal.returns-clause-sends
returns-clause-sends g c = two_sent c.send-2.result c.parts.result.0.now c.parts.result.1.now _ _ _ _ _ _ _ c.parts.ensures c.in_ok-send.ensures.sends c.send-2.ensures.sends
