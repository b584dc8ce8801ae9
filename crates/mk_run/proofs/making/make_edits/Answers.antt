use Rattle.std.proofs.Common.{arith}
use Rattle.mk_decide.specs.Answers.{refusal_of}
use Rattle.mk_decide.specs.Views.{edit_of}
use Rattle.mk_run.proofs.WordsMade.{one_made, one_refused, only_edit}
use Rattle.mk_run.proofs.making.make_edits.Goals as goal

pub returns-in-Ok : goal.returns-in-Ok
returns-in-Ok c = one_made _ (edit_of c.edit-item.result) c.args.session.now c.edit.new.self (only_edit edit_of c.args.edits.now c.edit-item.result (omega arith) (omega arith) c.edit-item.is) c.in-Ok.ensures.does

pub returns-in-Err : goal.returns-in-Err
returns-in-Err c =
    (c.in-Err.ensures.does.0, one_refused _ (edit_of c.edit-item.result) c.args.session.now (refusal_of c.in-Err.reason) (only_edit edit_of c.args.edits.now c.edit-item.result (omega arith) (omega arith) c.edit-item.is) c.in-Err.ensures.does.1)
