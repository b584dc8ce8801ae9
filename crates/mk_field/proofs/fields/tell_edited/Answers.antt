use Rattle.std.proofs.Common.{map}
use Rattle.mk_edit.specs.Histories.{text_now}
use Rattle.mk_mail.specs.Apart.{section_made}
use Rattle.mk_field.specs.FilterClauses.{fitted}
use Rattle.mk_field.specs.FilterViews.{round_of}
use Rattle.mk_field.proofs.ToldLemmas.{told_edited}
use Rattle.mk_field.proofs.fields.tell_edited.Goals as goal

pub returns-in-Ok-clause-told : goal.returns-in-Ok-clause-told
returns-in-Ok-clause-told c = λ text begun number.
    let path = c.args.filter.now.path.now in
    told_edited path number text (text_now c.edit_section.new.session) c.in-Ok.refusal (fitted c.args.place (section_made path (map round_of c.args.filter.now.rounds.now) text)) (c.in-Ok.ensures.edited text begun)
