use Rattle.std.proofs.Common.{[], ◌∷◌}
use Rattle.mk_decide.specs.Edits.{Group}
use Rattle.mk_decide.specs.Views.{edit_of}
use Rattle.mk_edit.specs.Histories.{step}
use Rattle.mk_edit.proofs.OneEdit.{one_refused}
use Rattle.mk_edit.proofs.session.Session.edit_alone.Goals as goal

pub returns-in-Err : goal.returns-in-Err
returns-in-Err c = (
  c.in-Err.ensures.does.0,
  c.refused.ensures (step (Group (edit_of c.args.edit.now ∷ [])) c.args.self.now) (one_refused (edit_of c.args.edit.now) c.args.self.now c.in-Err.error c.in-Err.ensures.does.1),
)
