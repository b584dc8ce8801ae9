use Rattle.std.proofs.Common.{◌≡◌, ◌∙◌, [], subst}
use Rattle.std.specs.Io.KnownBytes.{Appends}
use Rattle.std.proofs.lemmas.Result.{err_from_is_err_and}
use Rattle.mk_mailbox.specs.Devices.{AppendsFront}
use Rattle.mk_field.specs.inner.Telling.{Gathers}
use Rattle.mk_field.proofs.GatheredLemmas.{front_flushed, gathers_flushed, put_all, put_fault, put_some, put_well}
use Rattle.mk_field.proofs.telling.put.Goals as goal

pub returns-in_err-flush-clause-some : goal.returns-in_err-flush-clause-some
returns-in_err-flush-clause-some g c =
    let stopped = err_from_is_err_and c.from_residual.result c.from_residual.ensures.1 in
    let same : c.gather.new.gathered.items ≡ c.args.gathered.now.items = rw c.if-gather.false at c.gather.ensures in
    rw stopped.1
    (front_flushed c.args.text.now c.args.gathered.now.items c.flush.new.gathered.items _ _ c.flush.ensures.none
    (subst (AppendsFront (g.O.Sink.contents c.args.out.now) (g.O.Sink.contents c.flush.new.out)) same c.in_err-flush.ensures.sends.front))

pub returns-clause-all : goal.returns-clause-all
returns-clause-all g c =
    let same : c.gather.new.gathered.items ≡ c.args.gathered.now.items = rw c.if-gather.false at c.gather.ensures in
    let kept : c.gather-2.new.gathered.items ≡ c.flush.new.gathered.items = rw c.if-gather-2.false at c.gather-2.ensures in
    let none : c.gather-2.new.gathered.items ≡ [] = kept ∙ c.flush.ensures.none in
    let went : Gathers [] c.args.gathered.now.items c.gather-2.new.gathered.items (g.O.Sink.contents c.args.out.now) (g.O.Sink.contents c.flush.new.out) =
    gathers_flushed _ _ _ _ none (subst (Appends (g.O.Sink.contents c.args.out.now) (g.O.Sink.contents c.flush.new.out)) same c.in_ok-flush.ensures.sends.whole) in
    put_all c.send.result c.args.text.now _ _ _ _ _ _ _ none went c.send.ensures.sends

pub returns-clause-some : goal.returns-clause-some
returns-clause-some g c =
    let same : c.gather.new.gathered.items ≡ c.args.gathered.now.items = rw c.if-gather.false at c.gather.ensures in
    let kept : c.gather-2.new.gathered.items ≡ c.flush.new.gathered.items = rw c.if-gather-2.false at c.gather-2.ensures in
    let none : c.gather-2.new.gathered.items ≡ [] = kept ∙ c.flush.ensures.none in
    let went : Gathers [] c.args.gathered.now.items c.gather-2.new.gathered.items (g.O.Sink.contents c.args.out.now) (g.O.Sink.contents c.flush.new.out) =
    gathers_flushed _ _ _ _ none (subst (Appends (g.O.Sink.contents c.args.out.now) (g.O.Sink.contents c.flush.new.out)) same c.in_ok-flush.ensures.sends.whole) in
    put_some c.send.result c.args.text.now _ _ _ _ _ _ _ none went c.send.ensures.sends

pub returns-clause-fault : goal.returns-clause-fault
returns-clause-fault g c = put_fault c.send.result _ _ _ _ _ _ c.in_ok-flush.ensures.sends.well c.send.ensures.only c.send.ensures.sends

pub returns-clause-well : goal.returns-clause-well
returns-clause-well g c = put_well c.send.result _ _ _ _ _ _ c.in_ok-flush.ensures.sends.well c.send.ensures.sends
