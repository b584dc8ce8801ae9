use Rattle.std.proofs.Common.{◌∙◌, []}
use Rattle.std.proofs.lemmas.Result.{err_from_is_err_and}
use Rattle.mk_field.specs.inner.Telling.{Gathers, printed_text, told_said}
use Rattle.mk_field.proofs.GatheredLemmas.{front_flushed, front_then, gathers_flushed, gathers_then}
use Rattle.mk_transfer.proofs.Blames.{sends_counted}
use Rattle.mk_field.proofs.ToldLemmas.{says_front, says_partly, says_reported, sent_fault, sent_memory, sent_well}
use Rattle.mk_field.proofs.telling.say.Goals as goal

pub returns-in_err-put_printed-clause-some : goal.returns-in_err-put_printed-clause-some
returns-in_err-put_printed-clause-some g c =
    let stopped = err_from_is_err_and c.from_residual.result c.from_residual.ensures.1 in
    rw stopped.1
    (says_front (told_said c.args.path.now c.args.number c.args.told.now) _ _ _ _ _
    c.in_err-put_printed.ensures.some)

pub returns-in_err-flush-clause-some : goal.returns-in_err-flush-clause-some
returns-in_err-flush-clause-some g c =
    let stopped = err_from_is_err_and c.from_residual-in_err-flush.result c.from_residual-in_err-flush.ensures.1 in
    let text : Gathers (printed_text c.args.told.now.text) c.args.gathered.now.items c.put_printed.new.gathered.items (g.O.Sink.contents c.args.out.now) (g.O.Sink.contents c.put_printed.new.out) =
    c.in_ok-put_printed.ensures.all in
    rw stopped.1
    (says_front (told_said c.args.path.now c.args.number c.args.told.now) _ _ _ _ _
    (front_then (printed_text c.args.told.now.text) c.args.gathered.now.items c.put_printed.new.gathered.items c.flush.new.gathered.items _ _ _ text
    (front_flushed [] c.put_printed.new.gathered.items c.flush.new.gathered.items _ _ c.flush.ensures.none c.in_err-flush.ensures.sends.front)))

pub returns-clause-all : goal.returns-clause-all
returns-clause-all g c =
    let text : Gathers (printed_text c.args.told.now.text) c.args.gathered.now.items c.put_printed.new.gathered.items (g.O.Sink.contents c.args.out.now) (g.O.Sink.contents c.put_printed.new.out) =
    c.in_ok-put_printed.ensures.all in
    says_reported (told_said c.args.path.now c.args.number c.args.told.now) c.report.result _ _ _ _ _ _ _ _
    (gathers_then (printed_text c.args.told.now.text) _ _ _ _ _ _ text (gathers_flushed c.put_printed.new.gathered.items c.flush.new.gathered.items _ _ c.flush.ensures.none c.in_ok-flush.ensures.sends.whole))
    c.report.ensures.sends c.report.ensures.told

pub returns-clause-some : goal.returns-clause-some
returns-clause-some g c =
    let text : Gathers (printed_text c.args.told.now.text) c.args.gathered.now.items c.put_printed.new.gathered.items (g.O.Sink.contents c.args.out.now) (g.O.Sink.contents c.put_printed.new.out) =
    c.in_ok-put_printed.ensures.all in
    says_partly (told_said c.args.path.now c.args.number c.args.told.now) c.report.result _ _ _ _ _ _ _ _
    (gathers_then (printed_text c.args.told.now.text) _ _ _ _ _ _ text (gathers_flushed c.put_printed.new.gathered.items c.flush.new.gathered.items _ _ c.flush.ensures.none c.in_ok-flush.ensures.sends.whole))
    c.report.ensures.sends

pub returns-clause-failed : goal.returns-clause-failed
returns-clause-failed g c = sent_fault c.report.result _ _ _ _ _ _ c.report.ensures.sends

pub returns-clause-memory : goal.returns-clause-memory
returns-clause-memory g c = sent_memory c.report.result _ _ _ _ _ _ _ (c.in_ok-flush.ensures.sends.well ∙ c.in_ok-put_printed.ensures.well) c.report.ensures.sends

pub returns-clause-errors_well : goal.returns-clause-errors_well
returns-clause-errors_well g c = sent_well c.report.result _ _ _ _ _ c.report.ensures.sends

pub returns-clause-counted : goal.returns-clause-counted
returns-clause-counted g c = sends_counted c.report.result _ _ _ _ _ c.report.ensures.sends
