use Rattle.mk_mail.proofs.ReplacedApart.{replaced_apart}
use Rattle.mk_mail.proofs.laws.replaced_stay_apart.Goals as goal

pub returns : goal.returns
returns c = replaced_apart
