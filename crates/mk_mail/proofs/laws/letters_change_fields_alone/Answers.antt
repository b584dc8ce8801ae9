use Rattle.mk_mail.proofs.FilteredMail.{fields_alone}
use Rattle.mk_mail.proofs.laws.letters_change_fields_alone.Goals as goal

pub returns : goal.returns
returns c = fields_alone
