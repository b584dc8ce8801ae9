use Rattle.mk_splice.proofs.KnownDigests.{abc_is, empty_is}
use Rattle.mk_splice.proofs.laws.known_digests.Goals as goal

pub returns-clause-empty : goal.returns-clause-empty
returns-clause-empty c = empty_is

pub returns-clause-abc : goal.returns-clause-abc
returns-clause-abc c = abc_is
