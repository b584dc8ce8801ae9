use Rattle.std.proofs.Common.{◌∙◌, ap, sym, subst}
use Rattle.mk_edit.specs.Histories.{IsHistory, text_now}
use Rattle.mk_splice.specs.Views.{steps_of}
use Rattle.mk_edit.proofs.Steps.{fit_history, fit_text}
use Rattle.mk_edit.proofs.session.Session.text.Goals as goal

pub returns-clause-now : goal.returns-clause-now
returns-clause-now c = c.text.ensures ∙ (sym (fit_text c.self.inside.doc (steps_of c.self.inside.steps.items) c.self.inside.done c.self.invariant) ∙ ap text_now c.self.view_is)

pub returns-clause-valid : goal.returns-clause-valid
returns-clause-valid c = subst IsHistory c.self.view_is (fit_history c.self.inside.doc (steps_of c.self.inside.steps.items) c.self.inside.done c.self.invariant)
