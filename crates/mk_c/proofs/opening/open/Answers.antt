use Rattle.std.proofs.Common.{Ok, Err, Some, sym, refl, ap, ◌∙◌, inl, inr}
use Rattle.mk_c.specs.declared.status.Reason.TheVariants.{Memory}
use Rattle.mk_c.proofs.opening.open.Goals as goal

pub returns-in-Err : goal.returns-in-Err
returns-in-Err c = (Err c.in-Err.reason, (λ i. (c.told.ensures.status i, c.told.ensures.place i)), c.take-before.ensures.closed, inl (sym c.in-Err.is))

pub returns-in-Ok-new : goal.returns-in-Ok-new
returns-in-Ok-new c =
    (Ok c.in-Ok.editor, (λ i. (c.told-in-Ok-new.ensures.status i, c.told-in-Ok-new.ensures.place i)), c.give.ensures ∙ ap (λ desk. Some desk) c.in-Ok-new.ensures.ok, inl (sym c.in-Ok.is))

pub returns : goal.returns
returns c = (Err Memory, (λ i. (c.told-in-Err-new.ensures.status i, c.told-in-Err-new.ensures.place i)), c.take-before.ensures.closed, inr refl)
