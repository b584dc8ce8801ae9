use Rattle.std.proofs.Common.{refl}
use Rattle.mk_script.specs.ScriptViews.{items_of}
use Rattle.mk_show.specs.Portions.{ShowsAllAs}
use Rattle.mk_show.specs.Shown.{run_of_answer}
use Rattle.mk_show.specs.inner.SaidAnswers.{said_of_answer}
use Rattle.mk_transfer.specs.RunClauses.{counts}
use Rattle.mk_transfer.proofs.Blames.{reading_blamed, writing_blamed}
use Rattle.mk_show.proofs.ShownLemmas.{ShowsSoFar-written}
use Rattle.mk_show.proofs.showing.try_extract_all.Goals as goal

pub returns-in-Ok-given_all-clause-leaves : goal.returns-in-Ok-given_all-clause-leaves
returns-in-Ok-given_all-clause-leaves g c = (
  c.in-Ok.doc,
  c.in-Ok.ensures.all,
  ShowsSoFar-written (ShowsAllAs c.args.wanted (items_of c.args.paths.now) c.in-Ok.doc) (run_of_answer c.in-Ok-given_all.answer) c.print.result _ _ _ _ _ _ (said_of_answer c.in-Ok-given_all.answer, c.in-Ok-given_all.ensures, refl) c.in-Ok.ensures.ended c.print.ensures.written c.print.ensures.only,
)

pub returns-in-Err-clause-blamed : goal.returns-in-Err-clause-blamed
returns-in-Err-clause-blamed g c =
    reading_blamed c.in-Err.stop c.reading.result
    (counts (g.S.Source.failures c.args.input.now) (g.S.Source.read_count c.args.input.now) (g.O.Sink.failures c.args.out.now) (g.E.Sink.failures c.args.err.now))
    (counts (g.S.Source.failures c.read_doc.new.input) (g.S.Source.read_count c.read_doc.new.input) (g.O.Sink.failures c.args.out.now) (g.E.Sink.failures c.args.err.now))
    c.reading.ensures c.in-Err.ensures.fault c.in-Err.ensures.memory refl refl

pub returns-in-Ok-given_all-clause-blamed : goal.returns-in-Ok-given_all-clause-blamed
returns-in-Ok-given_all-clause-blamed g c =
    writing_blamed c.print.result
    (counts (g.S.Source.failures c.args.input.now) (g.S.Source.read_count c.args.input.now) (g.O.Sink.failures c.args.out.now) (g.E.Sink.failures c.args.err.now))
    (counts (g.S.Source.failures c.read_doc.new.input) (g.S.Source.read_count c.read_doc.new.input) (g.O.Sink.failures c.print.new.out) (g.E.Sink.failures c.print.new.err))
    c.print.ensures.only c.print.ensures.failed c.in-Ok.ensures.well c.print.ensures.counted
