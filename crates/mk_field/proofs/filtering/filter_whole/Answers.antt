use Rattle.std.proofs.Common.{false, refl, sym, subst}
use Rattle.std.proofs.KnownBytes.{Keeps-refl}
use Rattle.mk_field.specs.FilterViews.{filter_of}
use Rattle.mk_field.specs.FilterClauses.{SaysSome}
use Rattle.mk_transfer.proofs.GivenUp.{not_reading}
use Rattle.mk_transfer.specs.RunClauses.{counts}
use Rattle.mk_transfer.proofs.Blames.{reading_blamed}
use Rattle.mk_field.proofs.FilterLemmas.{said_one, sending_blamed}
use Rattle.mk_transfer.proofs.Fronts.{AppendsFront-none}
use Rattle.mk_field.proofs.filtering.filter_whole.Goals as goal

pub returns-in-Err-clause-leaves : goal.returns-in-Err-clause-leaves
returns-in-Err-clause-leaves g c =
    let read = c.in-Err.ensures.front in
    (read.0, read.1, record { says = record { output = AppendsFront-none _ _; errors = AppendsFront-none _ _ }; silent = λ _ _. Keeps-refl _; known = λ _ e. cc })

pub returns-in-Err-filter_one-clause-leaves : goal.returns-in-Err-filter_one-clause-leaves
returns-in-Err-filter_one-clause-leaves g c =
    let one = said_one false (filter_of c.args.filter.now) 1 c.in-Ok.message.items in (
      c.in-Ok.message.items,
      c.in-Ok.ensures.all,
      record {
        says = subst (λ said. SaysSome said (g.O.Sink.contents c.args.out.now) (g.O.Sink.contents c.filter_one.new.out) (g.E.Sink.contents c.args.err.now) (g.E.Sink.contents c.filter_one.new.err)) (sym one) c.in-Err-filter_one.ensures.some;
        silent = λ _ r. not_reading c.in-Err-filter_one.stop c.writing.result c.writing.ensures r;
        known = λ _ e. cc;
      },
    )

pub returns-in-Err-clause-blamed : goal.returns-in-Err-clause-blamed
returns-in-Err-clause-blamed g c =
    reading_blamed c.in-Err.stop c.reading.result
    (counts (g.S.Source.failures c.args.input.now) (g.S.Source.read_count c.args.input.now) (g.O.Sink.failures c.args.out.now) (g.E.Sink.failures c.args.err.now))
    (counts (g.S.Source.failures c.read_all.new.input) (g.S.Source.read_count c.read_all.new.input) (g.O.Sink.failures c.args.out.now) (g.E.Sink.failures c.args.err.now))
    c.reading.ensures c.in-Err.ensures.fault c.in-Err.ensures.memory refl refl

pub returns-in-Err-filter_one-clause-blamed : goal.returns-in-Err-filter_one-clause-blamed
returns-in-Err-filter_one-clause-blamed g c =
    sending_blamed c.in-Err-filter_one.stop c.writing.result
    (counts (g.S.Source.failures c.args.input.now) (g.S.Source.read_count c.args.input.now) (g.O.Sink.failures c.args.out.now) (g.E.Sink.failures c.args.err.now))
    (counts (g.S.Source.failures c.read_all.new.input) (g.S.Source.read_count c.read_all.new.input) (g.O.Sink.failures c.filter_one.new.out) (g.E.Sink.failures c.filter_one.new.err))
    c.writing.ensures c.in-Err-filter_one.ensures.failed c.in-Err-filter_one.ensures.memory c.in-Ok.ensures.well c.filter_one.ensures.counted
