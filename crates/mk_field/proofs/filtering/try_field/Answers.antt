use Rattle.std.proofs.Common.{arith, inl}
use Rattle.mk_field.specs.FilterViews.{filter_of}
use Rattle.mk_transfer.specs.RunClauses.{counts}
use Rattle.mk_field.specs.Filtering.{messages_of, said_from}
use Rattle.mk_field.proofs.FilterLemmas.{EndsFiltered-refused, EndsFiltered-well, IsBroken-last, IsFiltered-kept, not_both_stops, sending_blamed}
use Rattle.mk_field.proofs.filtering.try_field.Goals as goal

pub returns-then-refused-clause-leaves : goal.returns-then-refused-clause-leaves
returns-then-refused-clause-leaves g c =
    let left = rw c.if-refused.true at c.in-Ok.ensures.leaves in
    let said = said_from c.args.each (filter_of c.args.filter.now) 1 (messages_of c.args.filter.now.from_lines c.args.each left.0) in
    (left.0, left.1, EndsFiltered-refused said _ _ (IsFiltered-kept said _ _ _ _ _ _ left.2 c.in-Ok-finish.ensures.kept))

pub returns-else-refused-clause-leaves : goal.returns-else-refused-clause-leaves
returns-else-refused-clause-leaves g c =
    let left = rw c.if-refused.false at c.in-Ok.ensures.leaves in
    let said = said_from c.args.each (filter_of c.args.filter.now) 1 (messages_of c.args.filter.now.from_lines c.args.each left.0) in
    (left.0, left.1, EndsFiltered-well said _ _ (IsFiltered-kept said _ _ _ _ _ _ left.2 c.in-Ok-finish.ensures.kept))

pub returns-in-Err-finish-clause-leaves : goal.returns-in-Err-finish-clause-leaves
returns-in-Err-finish-clause-leaves g c =
    let left = c.in-Ok.ensures.leaves in
    let said = said_from c.args.each (filter_of c.args.filter.now) 1 (messages_of c.args.filter.now.from_lines c.args.each left.0) in
    (left.0, left.1, IsBroken-last _ c.args.each c.in-Err-finish.stop _ said c.in-Ok.refused _ _ _ _ _ c.writing.ensures left.2 c.in-Err-finish.ensures.kept (λ not r. absurd (not r)))

pub returns-in-Err-finish-clause-blamed : goal.returns-in-Err-finish-clause-blamed
returns-in-Err-finish-clause-blamed g c =
    let clean = c.in-Ok.ensures.clean in
    sending_blamed c.in-Err-finish.stop c.writing.result
    (counts (g.S.Source.failures c.args.input.now) (g.S.Source.read_count c.args.input.now) (g.O.Sink.failures c.args.out.now) (g.E.Sink.failures c.args.err.now))
    (counts (g.S.Source.failures c.filter_input.new.input) (g.S.Source.read_count c.filter_input.new.input) (g.O.Sink.failures c.finish.new.out) (g.E.Sink.failures c.filter_input.new.err))
    c.writing.ensures (λ _. inl (rw clean.output at c.in-Err-finish.ensures.fault)) (λ w. not_both_stops c.in-Err-finish.stop c.in-Err-finish.ensures.only w) clean.input (omega (arith, clean.errors))
