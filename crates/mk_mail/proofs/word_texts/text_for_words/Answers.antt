use Rattle.std.proofs.Common.{◌∙◌, sym}
use Rattle.mk_mail.proofs.Plainness.{bytes_stay, needed, plain_stays}
use Rattle.mk_mail.proofs.word_texts.text_for_words.Goals as goal
use Rattle.mk_mail.proofs.word_texts.text_for_words.Goals.{in_default-via-in-Ok+else-not-is_plain, in_default-via-in_default}

pub returns-in-Ok : goal.returns-in-Ok
returns-in-Ok c = (needed c.args.value.now c.in-Ok.ensures.cases.1 (sym c.if-not-is_plain.ensures), c.in-Ok.ensures.cases.0)

pub returns-in_default : goal.returns-in_default
returns-in_default c = elim c.in_default.branch [
  | in_default-via-in-Ok+else-not-is_plain w ↦ plain_stays c.args.value.now w.in-Ok.ensures.cases.1 (sym w.is_plain.ensures ∙ w.if-not-is_plain.false)
  | in_default-via-in_default w ↦ bytes_stay c.args.value.now w.in_default.ensures.cases.0
]
