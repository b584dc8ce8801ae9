use Rattle.std.proofs.Common.{◌∙◌, ap, sym}
use Rattle.mk_edit.specs.Histories.{text_now}
use Rattle.mk_splice.specs.Views.{steps_of}
use Rattle.mk_edit.proofs.Steps.{fit_text}
use Rattle.mk_edit.proofs.session.Session.doc.Goals as goal

pub returns : goal.returns
returns c = sym (fit_text c.self.inside.doc (steps_of c.self.inside.steps.items) c.self.inside.done c.self.invariant) ∙ ap text_now c.self.view_is
