use Rattle.std.proofs.Common.{◌≡◌, ◌∙◌, ◌+◌, ◌++◌, ◌∷◌, [], ap, refl, sym, subst, inl, inr, arith, append-nil, length, length-append}
use Rattle.std.proofs.KnownBytes.{Consumes-nil, Consumes-trans}
use Rattle.std.specs.Io.KnownBytes.{IsAtEnd}
use Rattle.mk_mailbox.specs.Pieces.{mailbox_pieces}
use Rattle.mk_messages.proofs.Taken.{all_taken, counted_on_to, none_taken, one_taken, size_more, taken_all, taken_next}
use Rattle.mk_messages.proofs.Listed.{not_both}
use Rattle.mk_messages.proofs.WorkLemmas.{more_stopped_at, more_worked_at, none_worked, these_worked, worked_between}
use Rattle.mk_messages.proofs.working.work_in.Goals as goal

pub loop-turn-init : goal.loop-turn-init
loop-turn-init g c = record {
  told = ([], [], Consumes-nil _, none_taken c.args.from_lines c.args.mailbox.now c.requires.kept, refl, refl, none_worked g.row.D.Denot (g.W.MessageWork.does c.args.work.now) 1 _);
  ended = λ e. absurd (not_both c.args.mailbox.now.ended e c.requires.ended);
  same = c.requires.from_lines;
  well = record { input = refl; output = refl; errors = refl };
  device = refl;
  unfinished = refl;
  turns = omega arith;
  count = inl (rw c.requires.kept (omega arith));
}

pub returns-in_default-clause-some : goal.returns-in_default-clause-some
returns-in_default-clause-some g c =
    let way = c.args.from_lines in
    let P = g.W.MessageWork.does c.args.work.now in
    let Q = g.W.MessageWork.stops c.args.work.now in
    let t = c.loop-turn.invariant.told in
    let e = c.next.ensures.exact in
    (t.0 ++ e.0, Consumes-trans _ _ _ t.0 e.0 t.2 e.1, worked_between g.row.D.Denot P Q 1 t.1 _ _ _ _ _ t.6 (taken_all way t.0 e.0 t.1 c.loop-turn.mailbox t.3 e.2.over))

pub returns-in-Err-clause-some : goal.returns-in-Err-clause-some
returns-in-Err-clause-some g c =
    let way = c.args.from_lines in
    let P = g.W.MessageWork.does c.args.work.now in
    let Q = g.W.MessageWork.stops c.args.work.now in
    let t = c.loop-turn.invariant.told in
    let e = rw c.in-Ok-Some.field-0-is at c.in-Ok-Some.ensures.exact in
    let m = c.in-Ok-Some.message.items in
    let number : c.loop-turn.turn + 1 ≡ 1 + length t.1 = omega (arith, t.4) in (
      t.0 ++ e.0,
      Consumes-trans _ _ _ t.0 e.0 t.2 e.1,
      more_stopped_at g.row.D.Denot P Q 1 (c.loop-turn.turn + 1) t.1 (m ∷ []) (mailbox_pieces way (c.next.new.self.kept ++ [])) _ _ _ _ _ number t.6 c.in-Err.ensures.some
          (ap (mailbox_pieces way) (sym (append-nil (t.0 ++ e.0)))
          ∙ taken_next way t.0 e.0 m t.1 c.loop-turn.mailbox c.next.new.self t.3 e.2.over e.2.stays c.loop-turn.invariant.same e.2.reply [] (λ _. refl)),
    )

pub returns-in-Err-ReadFault-clause-some : goal.returns-in-Err-ReadFault-clause-some
returns-in-Err-ReadFault-clause-some g c =
    let way = c.args.from_lines in
    let P = g.W.MessageWork.does c.args.work.now in
    let Q = g.W.MessageWork.stops c.args.work.now in
    let t = c.loop-turn.invariant.told in
    let e = c.next.ensures.exact in
    (t.0 ++ e.0, Consumes-trans _ _ _ t.0 e.0 t.2 e.1, worked_between g.row.D.Denot P Q 1 t.1 _ _ _ _ _ t.6 (taken_all way t.0 e.0 t.1 c.loop-turn.mailbox t.3 e.2.over))

pub returns-in-Err-Memory-clause-some : goal.returns-in-Err-Memory-clause-some
returns-in-Err-Memory-clause-some g c =
    let way = c.args.from_lines in
    let P = g.W.MessageWork.does c.args.work.now in
    let Q = g.W.MessageWork.stops c.args.work.now in
    let t = c.loop-turn.invariant.told in
    let e = c.next.ensures.exact in
    (t.0 ++ e.0, Consumes-trans _ _ _ t.0 e.0 t.2 e.1, worked_between g.row.D.Denot P Q 1 t.1 _ _ _ _ _ t.6 (taken_all way t.0 e.0 t.1 c.loop-turn.mailbox t.3 e.2.over))

pub returns-in-Ok-None-clause-all : goal.returns-in-Ok-None-clause-all
returns-in-Ok-None-clause-all g c =
    let way = c.args.from_lines in
    let P = g.W.MessageWork.does c.args.work.now in
    let Q = g.W.MessageWork.stops c.args.work.now in
    let t = c.loop-turn.invariant.told in
    let e = rw c.in-Ok-None.field-0-is at c.in-Ok-None.ensures.exact in
    (t.0 ++ e.0, Consumes-trans _ _ _ t.0 e.0 t.2 e.1, these_worked g.row.D.Denot P 1 t.1 _ _ _ _ (all_taken way t.0 e.0 t.1 c.loop-turn.mailbox c.next.new.self t.3 e.2.over e.2.reply) t.6)

pub returns-clause-some : goal.returns-clause-some
returns-clause-some g c =
    let way = c.args.from_lines in
    let P = g.W.MessageWork.does c.args.work.now in
    let Q = g.W.MessageWork.stops c.args.work.now in
    let t = c.loop-turn.invariant.told in
    (t.0, t.2, worked_between g.row.D.Denot P Q 1 t.1 _ _ _ _ _ t.6 (ap (mailbox_pieces way) (sym (append-nil t.0)) ∙ t.3 [] (λ _. refl)))

pub loop-turn-preserved : goal.loop-turn-preserved
loop-turn-preserved g c =
    let way = c.args.from_lines in
    let P = g.W.MessageWork.does c.args.work.now in
    let Q = g.W.MessageWork.stops c.args.work.now in
    let t = c.loop-turn.invariant.told in
    let before = c.loop-turn.invariant.well in
    let e = rw c.in-Ok-Some.field-0-is at c.in-Ok-Some.ensures.exact in
    let m = c.in-Ok-Some.message.items in
    let number : c.loop-turn.turn + 1 ≡ 1 + length t.1 = omega (arith, t.4) in
    let put = c.in-Ok.ensures in
    record {
      told = (
        t.0 ++ e.0,
        t.1 ++ m ∷ [],
        Consumes-trans _ _ _ t.0 e.0 t.2 e.1,
        one_taken way t.0 e.0 m t.1 c.loop-turn.mailbox c.next.new.self t.3 e.2.over e.2.stays c.loop-turn.invariant.same e.2.reply,
        omega (arith, t.4, length-append t.1 (m ∷ [])),
        omega (arith, t.5, size_more t.1 m, c.in-Some.ensures),
        more_worked_at g.row.D.Denot P 1 (c.loop-turn.turn + 1) t.1 (m ∷ []) _ _ _ _ _ number t.6 put.all,
      );
      ended = λ n. elim (c.next.ensures.ended n) [
        | inl old ↦ subst IsAtEnd (sym (c.next.ensures.idle old).0) (c.loop-turn.invariant.ended old)
        | inr end ↦ end
      ];
      same = c.next.ensures.exact.2.same ∙ c.loop-turn.invariant.same;
      well = record { input = c.in-Ok-Some.ensures.well ∙ before.input; output = put.well.output ∙ before.output; errors = put.well.errors ∙ before.errors };
      device = put.well.device ∙ c.loop-turn.invariant.device;
      unfinished = put.unfinished ∙ c.loop-turn.invariant.unfinished;
      turns = omega (arith, c.loop-turn.invariant.turns, e.2.reply.some, c.in-Some.ensures);
      count = counted_on_to _ _ _ _ _ m e.0 c.loop-turn.mailbox c.next.new.self c.loop-turn.invariant.count e.3 e.2.reply (omega (arith, c.in-Some.ensures));
    }
