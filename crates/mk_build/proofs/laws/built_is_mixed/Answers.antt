use Rattle.mk_build.proofs.Envelopes.{plainly_built}
use Rattle.mk_build.proofs.laws.built_is_mixed.Goals as goal

pub returns : goal.returns
returns c = plainly_built
