use Rattle.std.proofs.Common.{◌≡◌, [], true, arith, inl, refl, subst}
use Rattle.std.specs.Option.{option_map}
use Rattle.mk_mailbox.specs.inner.Answers.{Answers}
use Rattle.mk_transfer.specs.RunClauses.{counts}
use Rattle.mk_field.proofs.FilterLemmas.{kept_same, not_both_stops, sending_blamed}
use Rattle.mk_mailbox.proofs.Intaking.{answered}
use Rattle.mk_field.proofs.filtering.next_message.Goals as goal

pub returns-in-Ok-next-clause-exact : goal.returns-in-Ok-next-clause-exact
returns-in-Ok-next-clause-exact g c =
    let e = c.in-Ok-next.ensures.exact in
    let kept = rw c.in-Ok-None.field-0-is at c.in-Ok-None.ensures.piece in
    let same = kept_same c.next_known.new.self c.args.mailbox.now kept c.next_known.ensures.ended c.next_known.ensures.same in (
      e.0,
      e.1,
      subst (λ h. h.ended ≡ true → e.0 ≡ []) same e.2.over,
      e.3,
      subst (λ h. Answers (option_map (λ v. v.items) c.in-Ok-next.message) h e.0 c.next.new.self) same (answered c.in-Ok-next.message _ e.0 _ e.2.reply),
    )

pub returns-in-Err-flush-clause-blamed : goal.returns-in-Err-flush-clause-blamed
returns-in-Err-flush-clause-blamed g c = λ errors.
    sending_blamed c.in-Err-flush.stop c.writing.result
    (counts (g.S.Source.failures c.args.input.now) (g.S.Source.read_count c.args.input.now) (g.O.Sink.failures c.args.out.now) errors)
    (counts (g.S.Source.failures c.args.input.now) (g.S.Source.read_count c.args.input.now) (g.O.Sink.failures c.flush.new.out) errors)
    c.writing.ensures (λ e. inl (c.in-Err-flush.ensures.sends.fault e)) (λ w. not_both_stops c.in-Err-flush.stop c.in-Err-flush.ensures.only w) refl (omega arith)
