use Rattle.std.proofs.Common.{◌∙◌, ap}
use Rattle.mk_splice.specs.Views.{steps_of}
use Rattle.mk_edit.specs.History.{history_of}
use Rattle.mk_edit.specs.Histories.{started}
use Rattle.mk_edit.proofs.Moves.{put_text}
use Rattle.mk_edit.proofs.session.Session.begin.Goals as goal

pub returns : goal.returns
returns c =
    ap (λ vs. history_of c.in_ok-doc.doc (steps_of vs) 0) c.new.ensures.items
    ∙ ap started (c.in_ok-doc.ensures ∙ put_text c.args.self.now c.self.inside.doc (steps_of c.self.inside.steps.items) c.self.inside.done c.self.invariant c.self.view_is)
