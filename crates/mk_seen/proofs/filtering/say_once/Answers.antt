use Rattle.std.proofs.Common.{◌≡◌, ◌∙◌, true, not, ap, sym}
use Rattle.mk_field.specs.FilterViews.{filter_of}
use Rattle.mk_field.specs.Filtering.{said_of}
use Rattle.mk_seen.specs.SeenIds.{is_repeated}
use Rattle.mk_seen.proofs.NewLines.{said_all, said_first, said_repeated}
use Rattle.mk_seen.proofs.filtering.say_once.Goals as goal

pub returns-then-not-branch-clause-said : goal.returns-then-not-branch-clause-said
returns-then-not-branch-clause-said c =
    let seen = c.args.device.now.seen in
    let first : c.in_ok-see_message.field-0 ≡ not (is_repeated seen c.args.message.items) = c.in_ok-see_message.ensures.first ∙ ap (λ m. not (is_repeated seen m)) c.deref.ensures.value in
    c.requires ∙ sym (said_repeated (filter_of c.args.work.now) seen c.args.number c.args.message.items c.in_ok-see_message.field-0 first c.if-not-branch.true)

pub returns-in-Ok-clause-said : goal.returns-in-Ok-clause-said
returns-in-Ok-clause-said c =
    let seen = c.args.device.now.seen in
    let number = c.args.number in
    let message = c.args.message.items in
    let first : c.in_ok-see_message.field-0 ≡ not (is_repeated seen message) = c.in_ok-see_message.ensures.first ∙ ap (λ m. not (is_repeated seen m)) c.deref.ensures.value in
    said_all c.args.answer.now.output.text.items c.args.answer.now.errors.text.items c.filter_one.new.out.text.items c.filter_one.new.err.text.items _ c.requires c.in-Ok.ensures.all.output c.in-Ok.ensures.all.errors
    ∙ (ap (λ f. said_of true (filter_of f) number message) c.work.view_is ∙ sym (said_first (filter_of c.args.work.now) seen number message c.in_ok-see_message.field-0 first c.if-not-branch.false))
