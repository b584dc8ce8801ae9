use Rattle.mk_mail.proofs.SectionsApart.{sections_apart}
use Rattle.mk_mail.proofs.laws.sections_stay_apart.Goals as goal

pub returns : goal.returns
returns c = sections_apart
