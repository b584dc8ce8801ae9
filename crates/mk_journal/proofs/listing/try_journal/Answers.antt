use Rattle.std.proofs.Common.{◌∙◌, ap, refl}
use Rattle.mk_splice.specs.Journals.{journal}
use Rattle.mk_transfer.specs.RunClauses.{counts}
use Rattle.mk_transfer.proofs.Blames.{reading_blamed, writing_blamed}
use Rattle.mk_show.specs.Shown.{run_of_answer}
use Rattle.mk_show.proofs.ShownLemmas.{ShowsSoFar-written}
use Rattle.mk_journal.specs.StepRuns.{IsJournalRun, run_of_journal}
use Rattle.mk_journal.proofs.listing.try_journal.Goals as goal

pub returns-in-Ok-listing-clause-leaves : goal.returns-in-Ok-listing-clause-leaves
returns-in-Ok-listing-clause-leaves g c = (
  c.in-Ok.file.items,
  c.in-Ok.ensures.all,
  ShowsSoFar-written (IsJournalRun c.in-Ok.file.items) (run_of_answer c.in-Ok-listing.listing) c.print.result _ _ _ _ _ _
      (c.in-Ok-listing.ensures ∙ ap (λ file. run_of_journal (journal file)) c.deref.ensures.value) c.in-Ok.ensures.ended c.print.ensures.written c.print.ensures.only,
)

pub returns-in-Err-clause-blamed : goal.returns-in-Err-clause-blamed
returns-in-Err-clause-blamed g c =
    reading_blamed c.in-Err.stop c.reading.result
    (counts (g.S.Source.failures c.args.input.now) (g.S.Source.read_count c.args.input.now) (g.O.Sink.failures c.args.out.now) (g.E.Sink.failures c.args.err.now))
    (counts (g.S.Source.failures c.read_all.new.input) (g.S.Source.read_count c.read_all.new.input) (g.O.Sink.failures c.args.out.now) (g.E.Sink.failures c.args.err.now))
    c.reading.ensures c.in-Err.ensures.fault c.in-Err.ensures.memory refl refl

pub returns-in-Ok-listing-clause-blamed : goal.returns-in-Ok-listing-clause-blamed
returns-in-Ok-listing-clause-blamed g c =
    writing_blamed c.print.result
    (counts (g.S.Source.failures c.args.input.now) (g.S.Source.read_count c.args.input.now) (g.O.Sink.failures c.args.out.now) (g.E.Sink.failures c.args.err.now))
    (counts (g.S.Source.failures c.read_all.new.input) (g.S.Source.read_count c.read_all.new.input) (g.O.Sink.failures c.print.new.out) (g.E.Sink.failures c.print.new.err))
    c.print.ensures.only c.print.ensures.failed c.in-Ok.ensures.well c.print.ensures.counted
