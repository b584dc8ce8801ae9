use Rattle.std.proofs.Common.{ap, map, refl, subst, sym, ◌∙◌}
use Rattle.mk_line.specs.Lines.{cut, eol_of}
use Rattle.mk_build.specs.ForwardViews.{forwarded_of}
use Rattle.mk_pack.specs.Packing.{IsPackedWith, manner_of}
use Rattle.mk_pack.specs.inner.Judged.{run_of_judged}
use Rattle.mk_transfer.specs.RunClauses.{counts}
use Rattle.mk_transfer.proofs.Blames.{reading_blamed}
use Rattle.mk_pack.proofs.GonePieces.{ShowsSoFar-gone, giving_blamed}
use Rattle.mk_pack.proofs.TurnedParts.{packed_chosen}
use Rattle.mk_pack.proofs.packing.try_pack.Goals as goal

pub returns-in-Ok-message-clause-leaves : goal.returns-in-Ok-message-clause-leaves
returns-in-Ok-message-clause-leaves g c =
    let messages = map forwarded_of c.args.messages.now in
    let packed = IsPackedWith (manner_of c.args.options) c.args.parts.now messages in
    let run = run_of_judged c.in-Ok-message.judged in
    let text = c.in-Ok.text.items in
    let is : packed c.deref-2.result.now run =
    c.in-Ok-message.ensures
    ∙ packed_chosen (λ v. v.items) (manner_of c.args.options) c.eol_of.result c.chosen.result.now c.args.parts.now c.in-Ok-turned_if.turned messages c.deref-2.result.now
    (c.eol_of.ensures ∙ ap (λ t. eol_of (cut t)) (c.deref.ensures.value ∙ sym c.deref-2.ensures.value)) c.chosen.ensures c.in-Ok-turned_if.ensures.turned c.in-Ok-turned_if.ensures.plain in (
      text,
      c.in-Ok.ensures.all,
      ShowsSoFar-gone (packed text) run c.give.result _ _ _ _ _ _ (subst (λ t. packed t run) c.deref-2.ensures.value is) c.in-Ok.ensures.ended c.give.ensures.written c.give.ensures.not_read,
    )

pub returns-in-Err-clause-blamed : goal.returns-in-Err-clause-blamed
returns-in-Err-clause-blamed g c =
    reading_blamed c.in-Err.stop c.reading.result
    (counts (g.S.Source.failures c.args.input.now) (g.S.Source.read_count c.args.input.now) (g.O.Sink.failures c.args.out.now) (g.E.Sink.failures c.args.err.now))
    (counts (g.S.Source.failures c.read_all.new.input) (g.S.Source.read_count c.read_all.new.input) (g.O.Sink.failures c.args.out.now) (g.E.Sink.failures c.args.err.now))
    c.reading.ensures c.in-Err.ensures.fault c.in-Err.ensures.memory refl refl

pub returns-in-Ok-message-clause-blamed : goal.returns-in-Ok-message-clause-blamed
returns-in-Ok-message-clause-blamed g c =
    giving_blamed c.give.result
    (counts (g.S.Source.failures c.args.input.now) (g.S.Source.read_count c.args.input.now) (g.O.Sink.failures c.args.out.now) (g.E.Sink.failures c.args.err.now))
    (counts (g.S.Source.failures c.read_all.new.input) (g.S.Source.read_count c.read_all.new.input) (g.O.Sink.failures c.give.new.out) (g.E.Sink.failures c.give.new.err))
    c.give.ensures.not_read c.give.ensures.failed c.give.ensures.memory c.in-Ok.ensures.well c.give.ensures.counted
