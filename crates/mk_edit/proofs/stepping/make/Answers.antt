use Rattle.std.proofs.Common.{◌∙◌, ap, take, drop}
use Rattle.mk_splice.specs.Splices.{spliced}
use Rattle.mk_decide.specs.LocalAnswers.{plain_splice}
use Rattle.mk_decide.specs.Views.{edit_of}
use Rattle.mk_edit.proofs.GroupsMade.{made_so}
use Rattle.mk_edit.proofs.stepping.make.Goals as goal

pub returns-clause-ok : goal.returns-clause-ok
returns-clause-ok c =
    made_so (edit_of c.args.edit.now) c.args.doc.now c.change.new.doc (plain_splice c.in_ok-place.field-0) c.in_ok-old.old.items c.in_ok-place.ensures.ok
    (c.in_ok-old.ensures ∙ ap (λ x. take c.in_ok-place.field-0.count (drop c.in_ok-place.field-0.place x)) c.text.ensures)
    (c.in_ok-change.ensures.ok ∙ ap (λ b. spliced c.in_ok-place.field-0.place c.in_ok-place.field-0.count b c.args.doc.now) (c.in_ok-text.ensures.items ∙ c.deref.ensures.value))
