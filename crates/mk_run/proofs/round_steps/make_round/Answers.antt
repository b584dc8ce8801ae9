use Rattle.std.proofs.Common.{◌∙◌, ap, map}
use Rattle.mk_decide.specs.Answers.{refusal_of}
use Rattle.mk_decide.specs.Views.{edit_of}
use Rattle.mk_edit.specs.Histories.{text_now}
use Rattle.mk_field.specs.FilterViews.{round_of}
use Rattle.mk_mail.specs.Rounds.{round_edits}
use Rattle.mk_run.proofs.InRounds.{round_told}
use Rattle.mk_run.proofs.round_steps.make_round.Goals as goal

pub returns-in-Ok : goal.returns-in-Ok
returns-in-Ok c =
    let path = c.args.path.now in
    let r = round_of c.args.round.now in (
      map edit_of c.deref.result.now,
      record {
        edits = ap (map edit_of) c.deref.ensures.value ∙ (c.in_ok-edits.ensures ∙ ap (λ t. round_edits path t r) c.doc.ensures);
        done = c.in-Ok.ensures;
      },
    )

pub returns : goal.returns
returns c =
    let path = c.args.path.now in
    let old = c.args.session.now in
    let r = round_of c.args.round.now in
    let edits_is = c.in_ok-edits.ensures ∙ ap (λ t. round_edits path t r) c.doc.ensures in
    (c.in-Err.ensures.0, round_told path r (text_now old) (map edit_of c.deref.result.now) c.in-Err.field-0-0 (refusal_of c.in-Err.reason) (ap (map edit_of) c.deref.ensures.value ∙ edits_is) c.in-Err.ensures.1)
