use Rattle.std.proofs.Common.{◌≡◌, if◌then◌else◌, [], sym}
use Rattle.std.proofs.lemmas.List.{append-nil}
use Rattle.mk_mailbox.specs.Pieces.{mailbox_pieces}
use Rattle.mk_transfer.specs.declared.status.Status.TheVariants.{Well, Refused}
use Rattle.mk_messages.proofs.WorkLemmas.{ends_work, kept_worked, worked_between}
use Rattle.mk_messages.proofs.working.try_each.Goals as goal
use Rattle.mk_messages.proofs.working.try_each.Goals.{then-refused, else-refused}

pub returns-in-Ok-clause-leaves : goal.returns-in-Ok-clause-leaves
returns-in-Ok-clause-leaves g c =
    let way = c.args.from_lines in
    let P = g.W.MessageWork.does c.args.work.now in
    let Q = g.W.MessageWork.stops c.args.work.now in
    let all = c.in_ok-refused.ensures.all in
    let status_is : c.if-refused.result ≡ (if c.in_ok-refused.refused then Refused else Well) = elim c.if-refused.branch [
      | then-refused w ↦ rw w.if-refused.true w.result-is
      | else-refused w ↦ rw w.if-refused.false w.result-is
    ] in
    (all.0, all.1, ends_work g.row.D.Denot P (mailbox_pieces way all.0) c.in_ok-refused.refused c.if-refused.result _ _ _ _ _ _ _ _ _ all.2 c.in-Ok.ensures.kept status_is c.in_ok-refused.ensures.at_end)

pub returns-clause-leaves : goal.returns-clause-leaves
returns-clause-leaves g c =
    let way = c.args.from_lines in
    let P = g.W.MessageWork.does c.args.work.now in
    let Q = g.W.MessageWork.stops c.args.work.now in
    let all = c.in_ok-refused.ensures.all in
    let ms = mailbox_pieces way all.0 in
    (all.0, all.1, worked_between g.row.D.Denot P Q 1 ms [] ms c.in_ok-refused.refused _ _ (kept_worked g.row.D.Denot P 1 ms c.in_ok-refused.refused _ _ _ _ _ _ _ all.2 c.in-Err.ensures.kept) (sym (append-nil ms)))
