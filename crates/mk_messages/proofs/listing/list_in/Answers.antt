use Rattle.std.proofs.Common.{◌∙◌, ◌++◌, ◌∷◌, [], ap, refl, sym, subst, inl, inr, arith, append-nil, length-append}
use Rattle.std.proofs.KnownBytes.{Appends-nil, Consumes-nil, Consumes-trans}
use Rattle.std.specs.Io.KnownBytes.{IsAtEnd}
use Rattle.mk_mailbox.specs.Pieces.{mailbox_pieces}
use Rattle.mk_transfer.specs.RunClauses.{counts}
use Rattle.mk_messages.proofs.Taken.{all_taken, counted_on_to, none_taken, one_taken, size_more, taken_all, taken_next}
use Rattle.mk_messages.proofs.Listed.{line_out, listed_all, not_both, sending_blamed, stopped_between, stopped_here, stopped_within}
use Rattle.mk_messages.proofs.listing.list_in.Goals as goal

pub loop-turn-init : goal.loop-turn-init
loop-turn-init g c = record {
  told = ([], [], Consumes-nil _, none_taken c.args.from_lines c.args.mailbox.now c.requires.kept, refl, refl, Appends-nil _);
  ended = λ e. absurd (not_both c.args.mailbox.now.ended e c.requires.ended);
  same = c.requires.from_lines;
  well = record { input = refl; output = refl; errors = refl };
  unfinished = refl;
  turns = omega arith;
  count = inl (rw c.requires.kept (omega arith));
}

pub returns-in_default-clause-listed : goal.returns-in_default-clause-listed
returns-in_default-clause-listed g c =
    let t = c.loop-turn.invariant.told in
    let e = c.next.ensures.exact in
    (t.0 ++ e.0, Consumes-trans _ _ _ t.0 e.0 t.2 e.1, stopped_between (g.L.MessageLine.text c.args.lines.now) c.args.from_lines (t.0 ++ e.0) t.1 _ _ _ (taken_all c.args.from_lines t.0 e.0 t.1 c.loop-turn.mailbox t.3 e.2.over) t.6)

pub returns-in-Err-clause-listed : goal.returns-in-Err-clause-listed
returns-in-Err-clause-listed g c =
    let way = c.args.from_lines in
    let t = c.loop-turn.invariant.told in
    let e = rw c.in-Ok-Some.field-0-is at c.in-Ok-Some.ensures.exact in
    let m = c.in-Ok-Some.message.items in (
      t.0 ++ e.0,
      Consumes-trans _ _ _ t.0 e.0 t.2 e.1,
      stopped_within (g.L.MessageLine.text c.args.lines.now) way c.loop-turn.turn c.loop-turn.start (t.0 ++ e.0) m t.1 (mailbox_pieces way (c.next.new.self.kept ++ [])) _ _ _ t.4 t.5
          (ap (mailbox_pieces way) (sym (append-nil (t.0 ++ e.0)))
          ∙ taken_next way t.0 e.0 m t.1 c.loop-turn.mailbox c.next.new.self t.3 e.2.over e.2.stays c.loop-turn.invariant.same e.2.reply [] (λ _. refl))
          t.6 c.in-Err.ensures.sends.front,
    )

pub returns-in-Err-clause-blamed : goal.returns-in-Err-clause-blamed
returns-in-Err-clause-blamed g c =
    let well = c.loop-turn.invariant.well in
    sending_blamed c.in-Err.stop c.writing.result
    (counts (g.S.Source.failures c.args.input.now) (g.S.Source.read_count c.args.input.now) (g.O.Sink.failures c.args.out.now) 0)
    (counts (g.S.Source.failures c.next.new.r) (g.S.Source.read_count c.next.new.r) (g.O.Sink.failures c.list_message.new.out) 0)
    c.writing.ensures (λ e. rw well.output at (c.in-Err.ensures.sends.fault e)) (λ e. c.in-Err.ensures.sends.steady e ∙ well.output) (c.in-Ok-Some.ensures.well ∙ well.input) refl

pub returns-in-Ok-None-clause-listed : goal.returns-in-Ok-None-clause-listed
returns-in-Ok-None-clause-listed g c =
    let t = c.loop-turn.invariant.told in
    let e = rw c.in-Ok-None.field-0-is at c.in-Ok-None.ensures.exact in (
      t.0 ++ e.0,
      Consumes-trans _ _ _ t.0 e.0 t.2 e.1,
      listed_all (g.L.MessageLine.text c.args.lines.now) c.args.from_lines (t.0 ++ e.0) t.1 _ _ (all_taken c.args.from_lines t.0 e.0 t.1 c.loop-turn.mailbox c.next.new.self t.3 e.2.over e.2.reply) t.6,
    )

pub returns-in-Err-ReadFault-clause-listed : goal.returns-in-Err-ReadFault-clause-listed
returns-in-Err-ReadFault-clause-listed g c =
    let t = c.loop-turn.invariant.told in
    let e = c.next.ensures.exact in
    (t.0 ++ e.0, Consumes-trans _ _ _ t.0 e.0 t.2 e.1, stopped_between (g.L.MessageLine.text c.args.lines.now) c.args.from_lines (t.0 ++ e.0) t.1 _ _ _ (taken_all c.args.from_lines t.0 e.0 t.1 c.loop-turn.mailbox t.3 e.2.over) t.6)

pub returns-in-Err-Memory-clause-listed : goal.returns-in-Err-Memory-clause-listed
returns-in-Err-Memory-clause-listed g c =
    let t = c.loop-turn.invariant.told in
    let e = c.next.ensures.exact in
    (t.0 ++ e.0, Consumes-trans _ _ _ t.0 e.0 t.2 e.1, stopped_between (g.L.MessageLine.text c.args.lines.now) c.args.from_lines (t.0 ++ e.0) t.1 _ _ _ (taken_all c.args.from_lines t.0 e.0 t.1 c.loop-turn.mailbox t.3 e.2.over) t.6)

pub returns-clause-listed : goal.returns-clause-listed
returns-clause-listed g c =
    let t = c.loop-turn.invariant.told in
    (t.0, t.2, stopped_here (g.L.MessageLine.text c.args.lines.now) c.args.from_lines t.0 t.1 c.loop-turn.mailbox _ _ t.3 t.6)

pub loop-turn-preserved : goal.loop-turn-preserved
loop-turn-preserved g c =
    let t = c.loop-turn.invariant.told in
    let e = rw c.in-Ok-Some.field-0-is at c.in-Ok-Some.ensures.exact in
    let m = c.in-Ok-Some.message.items in
    record {
      told = (
        t.0 ++ e.0,
        t.1 ++ m ∷ [],
        Consumes-trans _ _ _ t.0 e.0 t.2 e.1,
        one_taken c.args.from_lines t.0 e.0 m t.1 c.loop-turn.mailbox c.next.new.self t.3 e.2.over e.2.stays c.loop-turn.invariant.same e.2.reply,
        omega (arith, t.4, length-append t.1 (m ∷ [])),
        omega (arith, t.5, size_more t.1 m, c.in-Some.ensures),
        line_out (g.L.MessageLine.text c.args.lines.now) c.loop-turn.turn c.loop-turn.start m t.1 _ _ _ t.4 t.5 t.6 c.in-Ok.ensures.sends.whole,
      );
      ended = λ n. elim (c.next.ensures.ended n) [
        | inl old ↦ subst IsAtEnd (sym (c.next.ensures.idle old).0) (c.loop-turn.invariant.ended old)
        | inr end ↦ end
      ];
      same = c.next.ensures.exact.2.same ∙ c.loop-turn.invariant.same;
      well = record {
        input = c.in-Ok-Some.ensures.well ∙ c.loop-turn.invariant.well.input;
        output = c.in-Ok.ensures.sends.well ∙ c.loop-turn.invariant.well.output;
        errors = refl;
      };
      unfinished = c.in-Ok.ensures.unfinished ∙ c.loop-turn.invariant.unfinished;
      turns = omega (arith, c.loop-turn.invariant.turns, e.2.reply.some, c.in-Some.ensures);
      count = counted_on_to _ _ _ _ _ m e.0 c.loop-turn.mailbox c.next.new.self c.loop-turn.invariant.count e.3 e.2.reply (omega (arith, c.in-Some.ensures));
    }
