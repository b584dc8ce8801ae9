use Rattle.std.proofs.Common.{◌∙◌, ◌-◌, ◌++◌, ◌∷◌, [], sym, subst, inl, inr, arith, length-append}
use Rattle.std.proofs.KnownBytes.{Consumes-trans}
use Rattle.std.specs.Io.KnownBytes.{IsAtEnd}
use Rattle.mk_messages.proofs.Taken.{all_taken, counted_kept, one_taken, picked_none, picked_some, taken_next}
use Rattle.mk_messages.proofs.picking.pick.Goals as goal

pub returns-then-turn-number-clause-picked : goal.returns-then-turn-number-clause-picked
returns-then-turn-number-clause-picked g c =
    let t = c.loop-turn.invariant.told in
    let e = rw c.in-Ok-Some.field-0-is at c.in-Ok-Some.ensures.exact in
    picked_some c.args.from_lines _ _ (t.0 ++ e.0) c.in-Ok-Some.message.items t.1 c.next.new.self (c.args.number - 1) (Consumes-trans _ _ _ t.0 e.0 t.2 e.1)
    (λ n. elim (c.next.ensures.ended n) [
      | inl old ↦ subst IsAtEnd (sym (c.next.ensures.idle old).0) (c.loop-turn.invariant.ended old)
      | inr end ↦ end
    ])
    (taken_next c.args.from_lines t.0 e.0 c.in-Ok-Some.message.items t.1 c.loop-turn.mailbox c.next.new.self t.3 e.2.over e.2.stays c.loop-turn.invariant.same e.2.reply)
    (omega (arith, t.4, c.if-turn-number.true))

pub returns-then-turn-number-clause-bytes : goal.returns-then-turn-number-clause-bytes
returns-then-turn-number-clause-bytes g c =
    let t = c.loop-turn.invariant.told in
    let e = c.next.ensures.exact in
    (t.0 ++ e.0, Consumes-trans _ _ _ t.0 e.0 t.2 e.1)

pub returns-in-Ok-None-clause-picked : goal.returns-in-Ok-None-clause-picked
returns-in-Ok-None-clause-picked g c =
    let t = c.loop-turn.invariant.told in
    let e = rw c.in-Ok-None.field-0-is at c.in-Ok-None.ensures.exact in
    let ended : IsAtEnd (g.S.Source.remaining c.next.new.r) = elim (c.next.ensures.ended e.2.reply.ended) [
      | inl old ↦ subst IsAtEnd (sym (c.next.ensures.idle old).0) (c.loop-turn.invariant.ended old)
      | inr end ↦ end
    ] in
    picked_none c.args.from_lines _ _ (t.0 ++ e.0) t.1 (c.args.number - 1) (Consumes-trans _ _ _ t.0 e.0 t.2 e.1) ended
    (all_taken c.args.from_lines t.0 e.0 t.1 c.loop-turn.mailbox c.next.new.self t.3 e.2.over e.2.reply)
    (omega (arith, t.4, c.loop-turn.invariant.below))

pub returns-in-Ok-None-clause-bytes : goal.returns-in-Ok-None-clause-bytes
returns-in-Ok-None-clause-bytes g c =
    let t = c.loop-turn.invariant.told in
    let e = c.next.ensures.exact in
    (t.0 ++ e.0, Consumes-trans _ _ _ t.0 e.0 t.2 e.1)

pub returns-in-Err-ReadFault-clause-bytes : goal.returns-in-Err-ReadFault-clause-bytes
returns-in-Err-ReadFault-clause-bytes g c =
    let t = c.loop-turn.invariant.told in
    let e = c.next.ensures.exact in
    (t.0 ++ e.0, Consumes-trans _ _ _ t.0 e.0 t.2 e.1)

pub returns-in-Err-Memory-clause-bytes : goal.returns-in-Err-Memory-clause-bytes
returns-in-Err-Memory-clause-bytes g c =
    let t = c.loop-turn.invariant.told in
    let e = c.next.ensures.exact in
    (t.0 ++ e.0, Consumes-trans _ _ _ t.0 e.0 t.2 e.1)

pub loop-turn-preserved : goal.loop-turn-preserved
loop-turn-preserved g c =
    let t = c.loop-turn.invariant.told in
    let e = rw c.in-Ok-Some.field-0-is at c.in-Ok-Some.ensures.exact in
    let m = c.in-Ok-Some.message.items in
    record {
      told = (
        t.0 ++ e.0,
        t.1 ++ m ∷ [],
        Consumes-trans _ _ _ t.0 e.0 t.2 e.1,
        one_taken c.args.from_lines t.0 e.0 m t.1 c.loop-turn.mailbox c.next.new.self t.3 e.2.over e.2.stays c.loop-turn.invariant.same e.2.reply,
        omega (arith, t.4, length-append t.1 (m ∷ [])),
      );
      ended = λ n. elim (c.next.ensures.ended n) [
        | inl old ↦ subst IsAtEnd (sym (c.next.ensures.idle old).0) (c.loop-turn.invariant.ended old)
        | inr end ↦ end
      ];
      same = c.next.ensures.exact.2.same ∙ c.loop-turn.invariant.same;
      well = c.in-Ok-Some.ensures.well ∙ c.loop-turn.invariant.well;
      below = omega (arith, c.if-turn-number.false, c.loop-turn.invariant.below);
      count = counted_kept _ _ _ m e.0 c.loop-turn.mailbox c.next.new.self c.loop-turn.invariant.count e.3 e.2.reply;
    }
