use Rattle.mk_head.specs.Views.{field_view}
use Rattle.mk_mail.specs.LetterViews.{prepend_of}
use Rattle.mk_mail.specs.LetterWork.{plain_edits}
use Rattle.mk_mail.proofs.FieldNames.{rest_prepending}
use Rattle.mk_mail.proofs.prepending.prepend_edits.Goals as goal

pub loop-field-preserved : goal.loop-field-preserved
loop-field-preserved c =
    let l = c.loop-field in
    rest_prepending c.args.path.now c.args.eol (prepend_of c.args.prepend.now) (field_view c.in-Some.field) l.next (plain_edits l.edits.items) _ l.field-iterator c.next.new.self c.in_default.is c.in-Some.ensures.steps l.invariant
