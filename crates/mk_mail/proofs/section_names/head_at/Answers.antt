use Rattle.mk_mail.proofs.FieldNames.{fields_found}
use Rattle.mk_mail.proofs.section_names.head_at.Goals as goal

pub returns-in-Some : goal.returns-in-Some
returns-in-Some c = fields_found c.args.path.now c.args.doc.now c.head.result.now c.in-Some.section c.in-Some.ensures c.head.ensures
