use Rattle.std.proofs.Common.{inl, refl}
use Rattle.std.proofs.KnownBytes.{Keeps-refl}
use Rattle.mk_show.specs.Portions.{IsTakenAs}
use Rattle.mk_show.specs.Shown.{run_of_answer}
use Rattle.mk_transfer.specs.RunClauses.{counts}
use Rattle.mk_transfer.proofs.Blames.{reading_blamed, writing_blamed}
use Rattle.mk_show.proofs.ShownLemmas.{ShowsSoFar-written}
use Rattle.mk_show.proofs.showing.try_extract.Goals as goal

pub returns-in-Ok-given-clause-leaves : goal.returns-in-Ok-given-clause-leaves
returns-in-Ok-given-clause-leaves g c = (
  c.in-Ok.doc,
  c.in-Ok.ensures.all,
  ShowsSoFar-written (IsTakenAs c.args.wanted c.args.path.now c.in-Ok.doc) (run_of_answer c.in-Ok-given.answer) c.print.result _ _ _ _ _ _ c.in-Ok-given.ensures c.in-Ok.ensures.ended c.print.ensures.written c.print.ensures.only,
)

pub returns-in-Err-clause-blamed : goal.returns-in-Err-clause-blamed
returns-in-Err-clause-blamed g c =
    reading_blamed c.in-Err.stop c.reading.result
    (counts (g.S.Source.failures c.args.input.now) (g.S.Source.read_count c.args.input.now) (g.O.Sink.failures c.args.out.now) (g.E.Sink.failures c.args.err.now))
    (counts (g.S.Source.failures c.read_doc.new.input) (g.S.Source.read_count c.read_doc.new.input) (g.O.Sink.failures c.args.out.now) (g.E.Sink.failures c.args.err.now))
    c.reading.ensures c.in-Err.ensures.fault c.in-Err.ensures.memory refl refl

pub returns-in-Ok-given-clause-blamed : goal.returns-in-Ok-given-clause-blamed
returns-in-Ok-given-clause-blamed g c =
    writing_blamed c.print.result
    (counts (g.S.Source.failures c.args.input.now) (g.S.Source.read_count c.args.input.now) (g.O.Sink.failures c.args.out.now) (g.E.Sink.failures c.args.err.now))
    (counts (g.S.Source.failures c.read_doc.new.input) (g.S.Source.read_count c.read_doc.new.input) (g.O.Sink.failures c.print.new.out) (g.E.Sink.failures c.print.new.err))
    c.print.ensures.only c.print.ensures.failed c.in-Ok.ensures.well c.print.ensures.counted

pub returns-clause-leaves : goal.returns-clause-leaves
returns-clause-leaves g c = (c.in-Ok.doc, c.in-Ok.ensures.all, inl (record { output = Keeps-refl _; errors = Keeps-refl _ }))

pub returns-in-Content-clause-leaves : goal.returns-in-Content-clause-leaves
returns-in-Content-clause-leaves g c = rw c.in-Content.is (c.in-Ok.doc, c.in-Ok.ensures.all, c.show_content.ensures.shows _ _ c.in-Ok.ensures.ended)
