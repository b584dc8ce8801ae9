use Rattle.std.proofs.Common.{◌∙◌, ◌++◌, ◌∷◌, [], refl, sym, subst, inl, inr, arith}
use Rattle.std.proofs.KnownBytes.{Consumes-nil, Consumes-trans}
use Rattle.std.specs.Io.KnownBytes.{IsAtEnd}
use Rattle.mk_field.specs.FilterViews.{filter_of}
use Rattle.mk_transfer.specs.RunClauses.{counts}
use Rattle.mk_transfer.proofs.GivenUp.{not_reading}
use Rattle.mk_field.proofs.FilterLemmas.{all_out, counted_on, known_between, long_on, moved_out, no_silence, none_out, one_out, sending_blamed, stopped_between, stopped_here, stopped_within, too_many, turns_out}
use Rattle.mk_field.proofs.TurnLemmas.{blamed_on}
use Rattle.mk_field.proofs.filtering.filter_in_turn.Goals as goal

pub loop-turn-init : goal.loop-turn-init
loop-turn-init g c = record {
  told = ([], [], Consumes-nil _, none_out (filter_of c.args.filter.now) _ _ _ c.cut_at-mailbox.result c.requires.none c.cut_at-mailbox.ensures.kept c.cut_at-mailbox.ensures.from_lines);
  ended = λ e. no_silence (sym e ∙ c.cut_at-mailbox.ensures.ended);
  well = record { input = refl; output = refl; errors = refl };
  unfinished = refl;
  count = inl (rw c.cut_at-mailbox.ensures.kept (omega arith));
}

pub returns-then-are_too_many-clause-leaves : goal.returns-then-are_too_many-clause-leaves
returns-then-are_too_many-clause-leaves g c =
    let t = c.loop-turn.invariant.told in (
      t.0,
      t.2,
      record {
        says = stopped_here (filter_of c.args.filter.now) _ _ t.0 t.1 c.loop-turn.mailbox _ _ _ _ _ t.3;
        known = λ _. inr (rw (c.reads.ensures, c.reads-before.ensures) at (too_many c.are_too_many.result c.reads-before.result c.reads.result c.are_too_many.ensures c.if-are_too_many.true));
      },
    )

pub returns-clause-leaves : goal.returns-clause-leaves
returns-clause-leaves g c =
    let t = c.loop-turn.invariant.told in (
      t.0,
      t.2,
      record {
        says = stopped_here (filter_of c.args.filter.now) _ _ t.0 t.1 c.loop-turn.mailbox _ _ _ _ _ t.3;
        known = λ _. inr (turns_out c.loop-turn.turn _ _ _ (omega (arith, c.loop-turn-test.false)) c.loop-turn.invariant.count);
      },
    )

pub returns-in-Err-clause-leaves : goal.returns-in-Err-clause-leaves
returns-in-Err-clause-leaves g c =
    let l = filter_of c.args.filter.now in
    let t = c.loop-turn.invariant.told in
    let e = c.in-Err.ensures.exact in (
      t.0 ++ e.0,
      Consumes-trans _ _ _ t.0 e.0 t.2 e.1,
      record {
        says = stopped_between l _ _ t.0 e.0 t.1 c.loop-turn.mailbox _ _ _ _ _ _ _ t.3 e.2 c.in-Err.ensures.cut;
        known = λ r. let k = c.in-Err.ensures.known r in elim k.0 [
          | inl unknown ↦ inl (k.1, known_between l _ _ t.0 e.0 t.1 c.loop-turn.mailbox c.next_message.new.mailbox _ _ _ _ _ _ t.3 k.2 e.2 e.4 unknown)
          | inr long ↦ inr (long_on _ _ _ _ _ c.loop-turn.invariant.count long)
        ];
      },
    )

pub returns-in-Err-clause-blamed : goal.returns-in-Err-clause-blamed
returns-in-Err-clause-blamed g c =
    blamed_on c.in-Err.cause
    (counts (g.S.Source.failures c.args.input.now) (g.S.Source.read_count c.args.input.now) (g.O.Sink.failures c.args.out.now) (g.E.Sink.failures c.args.err.now))
    (counts (g.S.Source.failures c.loop-turn.input) (g.S.Source.read_count c.loop-turn.input) (g.O.Sink.failures c.loop-turn.out) (g.E.Sink.failures c.loop-turn.err))
    (counts (g.S.Source.failures c.next_message.new.input) (g.S.Source.read_count c.next_message.new.input) (g.O.Sink.failures c.next_message.new.out) (g.E.Sink.failures c.loop-turn.err))
    c.loop-turn.invariant.well (long_on _ _ _ _ _ c.loop-turn.invariant.count) (c.in-Err.ensures.blamed (g.E.Sink.failures c.loop-turn.err))

pub returns-in-Ok-None-clause-leaves : goal.returns-in-Ok-None-clause-leaves
returns-in-Ok-None-clause-leaves g c =
    let t = c.loop-turn.invariant.told in
    let e = rw c.in-Ok-None.field-0-is at c.in-Ok-None.ensures.exact in
    let ended : IsAtEnd (g.S.Source.remaining c.next_message.new.input) = elim (c.next_message.ensures.ended e.4.ended) [
      | inl old ↦ subst IsAtEnd (sym (c.next_message.ensures.stays old).1) (c.loop-turn.invariant.ended old)
      | inr end ↦ end
    ] in (
      t.0 ++ e.0,
      Consumes-trans _ _ _ t.0 e.0 t.2 e.1,
      record { says = all_out (filter_of c.args.filter.now) _ c.loop-turn.refused t.0 e.0 t.1 c.loop-turn.mailbox c.next_message.new.mailbox _ _ _ _ _ (moved_out _ _ _ t.0 t.1 c.loop-turn.mailbox _ _ _ _ _ _ _ t.3 c.in-Ok-None.ensures.moved) e.2 e.4; ended = ended },
    )

pub returns-in-Err-say_message-clause-leaves : goal.returns-in-Err-say_message-clause-leaves
returns-in-Err-say_message-clause-leaves g c =
    let t = c.loop-turn.invariant.told in
    let e = rw c.in-Ok-Some.field-0-is at c.in-Ok-Some.ensures.exact in (
      t.0 ++ e.0,
      Consumes-trans _ _ _ t.0 e.0 t.2 e.1,
      record {
        says = stopped_within (filter_of c.args.filter.now) _ c.loop-turn.refused t.0 e.0 c.in-Ok-Some.message.items t.1 c.loop-turn.mailbox c.next_message.new.mailbox _ _ _ _ _ _ _ _ (moved_out _ _ _ t.0 t.1 c.loop-turn.mailbox _ _ _ _ _ _ _ t.3 c.in-Ok-Some.ensures.moved) e.2 e.4 c.in-Err-say_message.ensures.some;
        known = λ r. not_reading c.in-Err-say_message.stop c.writing.result c.writing.ensures r;
      },
    )

pub returns-in-Err-say_message-clause-blamed : goal.returns-in-Err-say_message-clause-blamed
returns-in-Err-say_message-clause-blamed g c =
    let well = c.loop-turn.invariant.well in
    sending_blamed c.in-Err-say_message.stop c.writing.result
    (counts (g.S.Source.failures c.args.input.now) (g.S.Source.read_count c.args.input.now) (g.O.Sink.failures c.args.out.now) (g.E.Sink.failures c.args.err.now))
    (counts (g.S.Source.failures c.next_message.new.input) (g.S.Source.read_count c.next_message.new.input) (g.O.Sink.failures c.say_message.new.out) (g.E.Sink.failures c.say_message.new.err))
    c.writing.ensures (λ e. rw (c.in-Ok-Some.ensures.output_well ∙ well.output, well.errors) at (c.in-Err-say_message.ensures.failed e))
    (λ e. let same = c.in-Err-say_message.ensures.memory e in (same.0 ∙ (c.in-Ok-Some.ensures.output_well ∙ well.output), same.1 ∙ well.errors)) (c.in-Ok-Some.ensures.well ∙ well.input) (omega (arith, c.say_message.ensures.counted, well.errors))

pub loop-turn-preserved : goal.loop-turn-preserved
loop-turn-preserved g c =
    let t = c.loop-turn.invariant.told in
    let e = rw c.in-Ok-Some.field-0-is at c.in-Ok-Some.ensures.exact in
    let m = c.in-Ok-Some.message.items in
    record {
      told = (
        t.0 ++ e.0,
        t.1 ++ m ∷ [],
        Consumes-trans _ _ _ t.0 e.0 t.2 e.1,
        one_out (filter_of c.args.filter.now) c.loop-turn.turn c.loop-turn.refused c.in-Ok.told t.0 e.0 m t.1 c.loop-turn.mailbox c.next_message.new.mailbox _ _ _ _ _ _ _ _ (moved_out _ _ _ t.0 t.1 c.loop-turn.mailbox _ _ _ _ _ _ _ t.3 c.in-Ok-Some.ensures.moved) e.2 (λ o. (c.next_message.ensures.stays o).0) c.next_message.ensures.same e.4 c.in-Ok.ensures.all,
      );
      ended = λ n. elim (c.next_message.ensures.ended n) [
        | inl old ↦ subst IsAtEnd (sym (c.next_message.ensures.stays old).1) (c.loop-turn.invariant.ended old)
        | inr end ↦ end
      ];
      well = record {
        input = c.in-Ok-Some.ensures.well ∙ c.loop-turn.invariant.well.input;
        output = c.in-Ok.ensures.output_well ∙ (c.in-Ok-Some.ensures.output_well ∙ c.loop-turn.invariant.well.output);
        errors = c.in-Ok.ensures.errors_well ∙ c.loop-turn.invariant.well.errors;
      };
      unfinished = c.in-Ok.ensures.unfinished ∙ (c.in-Ok-Some.ensures.unfinished ∙ c.loop-turn.invariant.unfinished);
      count = counted_on c.loop-turn.turn _ _ _ m e.0 c.loop-turn.mailbox c.next_message.new.mailbox c.loop-turn.invariant.count e.3 e.4;
    }
