use Rattle.std.proofs.Common.{◌≡◌, ◌∙◌, ap, subst, IfOk, OnOk}
use Rattle.mk_splice.specs.Printed.{AreSmall}
use Rattle.mk_splice.specs.Views.{steps_of}
use Rattle.mk_edit.proofs.Loadings.{saved_so}
use Rattle.mk_edit.proofs.session.Session.save.Goals as goal

pub returns-clause-journal : goal.returns-clause-journal
returns-clause-journal c =
    subst (λ text. IfOk c.print.result (λ v. v.items ≡ text))
    (saved_so c.self.inside.doc c.text-text.result.now c.deref.result.now c.self.inside.steps.items c.self.inside.done c.args.self.now c.self.invariant c.self.view_is c.text-text.ensures c.deref.ensures.value)
    c.print.ensures.ok

pub returns-clause-small : goal.returns-clause-small
returns-clause-small c = subst (λ ss. OnOk c.print.result (AreSmall ss)) (ap steps_of c.deref.ensures.value ∙ ap (λ h. h.steps) c.self.view_is) c.print.ensures.small
