use Rattle.mk_mail.proofs.FilteredMail.{filtered_apart}
use Rattle.mk_mail.proofs.laws.filtered_stay_apart.Goals as goal

pub returns : goal.returns
returns c = filtered_apart
