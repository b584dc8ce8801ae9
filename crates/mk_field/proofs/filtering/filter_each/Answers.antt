use Rattle.std.proofs.Common.{refl}
use Rattle.mk_transfer.specs.RunClauses.{counts}
use Rattle.mk_field.specs.FilterViews.{filter_of}
use Rattle.mk_field.proofs.FilterLemmas.{not_both_stops, sending_blamed}
use Rattle.mk_field.proofs.TurnLemmas.{flushed_leaves, some_gathered, stopped_failed, stopped_leaves, turn_counted}
use Rattle.mk_field.proofs.filtering.filter_each.Goals as goal

pub returns-in-Ok-clause-leaves : goal.returns-in-Ok-clause-leaves
returns-in-Ok-clause-leaves g c = flushed_leaves _ (filter_of c.args.filter.now) c.filter_in_turn-result.result _ _ _ _ _ _ c.filter_in_turn-result.ensures.leaves c.in-Ok.ensures.sends.whole

pub returns-clause-leaves : goal.returns-clause-leaves
returns-clause-leaves g c = stopped_leaves _ (filter_of c.args.filter.now) c.filter_in_turn-result.result c.in-Err.stop c.writing.result _ _ _ _ _ _ c.writing.ensures c.filter_in_turn-result.ensures.leaves c.in-Err.ensures.sends.front

pub returns-clause-blamed : goal.returns-clause-blamed
returns-clause-blamed g c =
    let before = counts (g.S.Source.failures c.args.input.now) (g.S.Source.read_count c.args.input.now) (g.O.Sink.failures c.args.out.now) (g.E.Sink.failures c.args.err.now) in
    let turn = c.filter_in_turn-result in
    let mid = counts (g.S.Source.failures turn.new.input) (g.S.Source.read_count turn.new.input) (g.O.Sink.failures turn.new.out) (g.E.Sink.failures turn.new.err) in
    let after = counts (g.S.Source.failures turn.new.input) (g.S.Source.read_count turn.new.input) (g.O.Sink.failures c.flush.new.out) (g.E.Sink.failures turn.new.err) in
    sending_blamed c.in-Err.stop c.writing.result before after c.writing.ensures
    (λ e. stopped_failed turn.result before mid after turn.ensures.blamed turn.ensures.clean (c.in-Err.ensures.sends.fault e) c.in-Err.ensures.sends.counted refl)
    (λ w. not_both_stops c.in-Err.stop c.in-Err.ensures.only w) (some_gathered turn.new.gathered.items turn.ensures.steady c.in-Err.ensures.needed)
    (turn_counted turn.result before mid turn.ensures.blamed turn.ensures.clean)
