use Rattle.std.proofs.Common.{◌∙◌, IfErr, IfOk, ap, subst}
use Rattle.std.specs.Option.{option_map}
use Rattle.mk_texts.specs.WordViews.{IsAsked, IsFaultIn}
use Rattle.mk_texts.specs.Words.{asked_by_sub, sub_asked, if_may_be}
use Rattle.mk_texts.proofs.words.sub_rule.Goals as goal

pub returns-in-Some-clause-asked : goal.returns-in-Some-clause-asked
returns-in-Some-clause-asked c =
    subst (λ o. IfOk c.asked_rule.result (λ read. IfOk read (IsAsked (if_may_be o))))
    ((rw c.in-Some.is at c.in_ok-asked.ensures) ∙ ap (λ w. option_map asked_by_sub (sub_asked w)) c.as_bytes.ensures.value) c.asked_rule.ensures.asked

pub returns-in-Some-clause-fault : goal.returns-in-Some-clause-fault
returns-in-Some-clause-fault c =
    subst (λ o. IfOk c.asked_rule.result (λ read. IfErr read (IsFaultIn (if_may_be o))))
    ((rw c.in-Some.is at c.in_ok-asked.ensures) ∙ ap (λ w. option_map asked_by_sub (sub_asked w)) c.as_bytes.ensures.value) c.asked_rule.ensures.fault
