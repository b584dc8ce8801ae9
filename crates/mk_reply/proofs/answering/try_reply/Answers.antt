use Rattle.std.proofs.Common.{◌∙◌, ap, refl}
use Rattle.mk_transfer.specs.RunClauses.{counts}
use Rattle.mk_transfer.proofs.Blames.{reading_blamed, writing_blamed}
use Rattle.mk_show.specs.Shown.{run_of_answer}
use Rattle.mk_show.proofs.ShownLemmas.{ShowsSoFar-written}
use Rattle.mk_reply.specs.Replies.{reply_to}
use Rattle.mk_reply.specs.ReplyRuns.{IsReplyRun, run_of_reply}
use Rattle.mk_reply.proofs.answering.try_reply.Goals as goal

pub returns-in-Ok-answer-clause-leaves : goal.returns-in-Ok-answer-clause-leaves
returns-in-Ok-answer-clause-leaves g c = (
  c.in-Ok.message.items,
  c.in-Ok.ensures.all,
  ShowsSoFar-written (IsReplyRun c.in-Ok.message.items) (run_of_answer c.in-Ok-answer.answer) c.print.result _ _ _ _ _ _
      (c.in-Ok-answer.ensures ∙ ap (λ message. run_of_reply (reply_to message)) c.deref.ensures.value) c.in-Ok.ensures.ended c.print.ensures.written c.print.ensures.only,
)

pub returns-in-Err-clause-blamed : goal.returns-in-Err-clause-blamed
returns-in-Err-clause-blamed g c =
    reading_blamed c.in-Err.stop c.reading.result
    (counts (g.S.Source.failures c.args.input.now) (g.S.Source.read_count c.args.input.now) (g.O.Sink.failures c.args.out.now) (g.E.Sink.failures c.args.err.now))
    (counts (g.S.Source.failures c.read_all.new.input) (g.S.Source.read_count c.read_all.new.input) (g.O.Sink.failures c.args.out.now) (g.E.Sink.failures c.args.err.now))
    c.reading.ensures c.in-Err.ensures.fault c.in-Err.ensures.memory refl refl

pub returns-in-Ok-answer-clause-blamed : goal.returns-in-Ok-answer-clause-blamed
returns-in-Ok-answer-clause-blamed g c =
    writing_blamed c.print.result
    (counts (g.S.Source.failures c.args.input.now) (g.S.Source.read_count c.args.input.now) (g.O.Sink.failures c.args.out.now) (g.E.Sink.failures c.args.err.now))
    (counts (g.S.Source.failures c.read_all.new.input) (g.S.Source.read_count c.read_all.new.input) (g.O.Sink.failures c.print.new.out) (g.E.Sink.failures c.print.new.err))
    c.print.ensures.only c.print.ensures.failed c.in-Ok.ensures.well c.print.ensures.counted
