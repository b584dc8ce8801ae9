use Rattle.std.proofs.Common.{ap, refl}
use Rattle.mk_transfer.specs.RunClauses.{counts}
use Rattle.mk_transfer.proofs.Blames.{reading_blamed, writing_blamed}
use Rattle.mk_show.proofs.ShownLemmas.{ShowsSoFar-written}
use Rattle.mk_check.specs.CheckRuns.{IsCheckRun, run_of_findings}
use Rattle.mk_check.proofs.checking.try_check.Goals as goal

pub returns-in-Ok-findings-clause-leaves : goal.returns-in-Ok-findings-clause-leaves
returns-in-Ok-findings-clause-leaves g c = (
  c.in-Ok.doc,
  c.in-Ok.ensures.all,
  ShowsSoFar-written (IsCheckRun c.args.form c.in-Ok.doc) (run_of_findings c.deref.result.now) c.print.result _ _ _ _ _ _
      (c.in-Ok-findings.text.items, c.in-Ok-findings.ensures, ap run_of_findings c.deref.ensures.value) c.in-Ok.ensures.ended c.print.ensures.written c.print.ensures.only,
)

pub returns-in-Err-clause-blamed : goal.returns-in-Err-clause-blamed
returns-in-Err-clause-blamed g c =
    reading_blamed c.in-Err.stop c.reading.result
    (counts (g.S.Source.failures c.args.input.now) (g.S.Source.read_count c.args.input.now) (g.O.Sink.failures c.args.out.now) (g.E.Sink.failures c.args.err.now))
    (counts (g.S.Source.failures c.read_doc.new.input) (g.S.Source.read_count c.read_doc.new.input) (g.O.Sink.failures c.args.out.now) (g.E.Sink.failures c.args.err.now))
    c.reading.ensures c.in-Err.ensures.fault c.in-Err.ensures.memory refl refl

pub returns-in-Ok-findings-clause-blamed : goal.returns-in-Ok-findings-clause-blamed
returns-in-Ok-findings-clause-blamed g c =
    writing_blamed c.print.result
    (counts (g.S.Source.failures c.args.input.now) (g.S.Source.read_count c.args.input.now) (g.O.Sink.failures c.args.out.now) (g.E.Sink.failures c.args.err.now))
    (counts (g.S.Source.failures c.read_doc.new.input) (g.S.Source.read_count c.read_doc.new.input) (g.O.Sink.failures c.print.new.out) (g.E.Sink.failures c.print.new.err))
    c.print.ensures.only c.print.ensures.failed c.in-Ok.ensures.well c.print.ensures.counted
