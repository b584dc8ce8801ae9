use Rattle.std.proofs.Common.{◌≡◌, ◌∙◌, ap, map}
use Rattle.std.proofs.lemmas.Result.{IfOk-weaker}
use Rattle.mk_edit.specs.Histories.{text_now}
use Rattle.mk_decide.specs.Views.{edit_of}
use Rattle.mk_mail.specs.Rounds.{round_edits}
use Rattle.mk_field.specs.FilterViews.{round_of}
use Rattle.mk_field.proofs.RoundLemmas.{edits_of_round}
use Rattle.mk_field.proofs.fields.edit.Goals as goal

pub returns-clause-made : goal.returns-clause-made
returns-clause-made c =
    let r = round_of c.args.round.now in
    let edits : map edit_of c.deref.result.now ≡ round_edits c.args.path.now (text_now c.args.session.now) r = ap (map edit_of) c.deref.ensures.value ∙ (c.in_ok-edits.ensures ∙ ap (λ x. round_edits c.args.path.now x r) c.doc.ensures) in
    IfOk-weaker c.make_edits.result _ _ (λ refusal h. edits_of_round c.args.path.now r (map edit_of c.deref.result.now) refusal c.args.session.now c.make_edits.new.session edits h) c.make_edits.ensures.made
