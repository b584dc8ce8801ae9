use Rattle.std.proofs.Common.{◌∙◌, ap, not}
use Rattle.std.proofs.lemmas.Result.{err_from_is_err_and}
use Rattle.mk_line.specs.Lines.{is_nil}
use Rattle.mk_mailbox.proofs.LinesGathered.{nil_is}
use Rattle.mk_transfer.proofs.Fronts.{AppendsFront-none, AppendsFront-whole}
use Rattle.mk_messages.specs.Working.{answer_said}
use Rattle.mk_messages.proofs.WorkLemmas.{one_cut, one_stopped, one_worked}
use Rattle.mk_messages.proofs.working.work_on.Goals as goal

pub returns-in_err-send-clause-some : goal.returns-in_err-send-clause-some
returns-in_err-send-clause-some g c =
    let from = err_from_is_err_and c.from_residual.result c.from_residual.ensures.1 in
    let sent = rw c.deref.ensures.value at c.in_err-send.ensures.sends in
    rw from.1
    (one_cut g.row.D.Denot (g.W.MessageWork.does c.args.work.now) (g.W.MessageWork.stops c.args.work.now) c.args.number c.args.message.items (answer_said c.work-done.new.answer) _ _ _ c.work-done.result
    c.work-done.ensures.done c.work-done.ensures.stopped sent.front (AppendsFront-none _ _))

pub returns-in_err-send-2-clause-some : goal.returns-in_err-send-2-clause-some
returns-in_err-send-2-clause-some g c =
    let from = err_from_is_err_and c.from_residual-in_err-send-2.result c.from_residual-in_err-send-2.ensures.1 in
    let sent = rw c.deref.ensures.value at c.in_ok-send.ensures.sends in
    let told = rw c.deref-report.ensures.value at c.in_err-send-2.ensures.sends in
    rw from.1
    (one_cut g.row.D.Denot (g.W.MessageWork.does c.args.work.now) (g.W.MessageWork.stops c.args.work.now) c.args.number c.args.message.items (answer_said c.work-done.new.answer) _ _ _ c.work-done.result
    c.work-done.ensures.done c.work-done.ensures.stopped (AppendsFront-whole _ _ _ sent.whole) told.front)

pub returns-in_err-done-clause-some : goal.returns-in_err-done-clause-some
returns-in_err-done-clause-some g c =
    let from = err_from_is_err_and c.from_residual-in_err-done.result c.from_residual-in_err-done.ensures.1 in
    let sent = rw c.deref.ensures.value at c.in_ok-send.ensures.sends in
    let told = rw c.deref-report.ensures.value at c.in_ok-send-2.ensures.sends in
    rw from.1
    (one_stopped g.row.D.Denot (g.W.MessageWork.does c.args.work.now) (g.W.MessageWork.stops c.args.work.now) c.args.number c.args.message.items (answer_said c.work-done.new.answer) _ _
    c.in_err-done.ensures.stopped (AppendsFront-whole _ _ _ sent.whole) (AppendsFront-whole _ _ _ told.whole))

pub returns-clause-all : goal.returns-clause-all
returns-clause-all g c =
    let sent = rw c.deref.ensures.value at c.in_ok-send.ensures.sends in
    let told = rw c.deref-report.ensures.value at c.in_ok-send-2.ensures.sends in
    one_worked g.row.D.Denot (g.W.MessageWork.does c.args.work.now) c.args.number c.args.message.items (answer_said c.work-done.new.answer) _ _ _ c.in_ok-done.ensures.done sent.whole told.whole (ap not (c.is_empty.ensures ∙ (nil_is c.deref-report.result.now ∙ ap is_nil c.deref-report.ensures.value)))
