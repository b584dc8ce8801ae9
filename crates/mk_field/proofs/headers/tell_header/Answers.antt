use Rattle.std.proofs.Common.{◌≡◌, ◌∙◌, ◌++◌, [], Some, None, ap, subst, drop, take, map}
use Rattle.std.proofs.lemmas.List.{take-append-drop}
use Rattle.mk_edit.specs.Histories.{text_now}
use Rattle.mk_mail.specs.Letters.{root_path}
use Rattle.mk_mail.specs.Rounds.{rounds_made}
use Rattle.mk_field.specs.FilterViews.{round_of}
use Rattle.mk_field.specs.inner.ByHeaders.{Tells}
use Rattle.mk_field.proofs.ToldLemmas.{edited_all, edited_none, told_edited}
use Rattle.mk_field.proofs.headers.tell_header.Goals as goal

pub returns-in-Made-clause-told : goal.returns-in-Made-clause-told
returns-in-Made-clause-told c =
    let rounds = map round_of c.args.rounds.now in
    let message = c.args.message.items in
    let size = c.in-Some.size in
    let body = drop size message in
    let parts : c.split_at.result.0.now ++ body ≡ message = (λ i. (c.split_at.ensures.front ∙ ap (take size) c.deref-2.ensures.value) i ++ body) ∙ take-append-drop size message in
    let told : Tells c.in_ok-header.field-0 body (rounds_made rounds message) = subst (λ text. Tells c.in_ok-header.field-0 body (rounds_made rounds text)) parts (c.in_ok-header.ensures.told body) in
    let made = rw c.in-Made.is at told in
    let left = text_now c.in-Made.header ++ body in
    (c.if-placed.false, λ number. (λ i. record { output = c.new.ensures i; errors = [] }) ∙ told_edited root_path number message left None (rounds_made rounds message) (edited_all (rounds_made rounds message) message left made))

pub returns-in-Refused-clause-told : goal.returns-in-Refused-clause-told
returns-in-Refused-clause-told c =
    let rounds = map round_of c.args.rounds.now in
    let message = c.args.message.items in
    let size = c.in-Some.size in
    let body = drop size message in
    let parts : c.split_at.result.0.now ++ body ≡ message = (λ i. (c.split_at.ensures.front ∙ ap (take size) c.deref-2.ensures.value) i ++ body) ∙ take-append-drop size message in
    let told : Tells c.in_ok-header.field-0 body (rounds_made rounds message) = subst (λ text. Tells c.in_ok-header.field-0 body (rounds_made rounds text)) parts (c.in_ok-header.ensures.told body) in
    let refused = rw c.in-Refused.is at told in
    (c.if-placed.false, λ number. told_edited root_path number message message (Some c.in-Refused.reason) (rounds_made rounds message) (edited_none (rounds_made rounds message) message c.in-Refused.reason refused.0))

pub returns-in-Refused-clause-named : goal.returns-in-Refused-clause-named
returns-in-Refused-clause-named c =
    let told = rw c.in-Refused.is at (c.in_ok-header.ensures.told (drop c.in-Some.size c.args.message.items)) in
    told.1
