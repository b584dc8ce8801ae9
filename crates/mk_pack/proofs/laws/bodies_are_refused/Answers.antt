use Rattle.mk_pack.proofs.PackLemmas.{body_refused}
use Rattle.mk_pack.proofs.laws.bodies_are_refused.Goals as goal

pub returns : goal.returns
returns c text parts boundary has = body_refused text parts boundary has
