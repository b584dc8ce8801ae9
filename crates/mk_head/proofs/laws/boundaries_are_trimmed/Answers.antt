use Rattle.mk_head.proofs.Bytes.{boundaries_trimmed}
use Rattle.mk_head.proofs.laws.boundaries_are_trimmed.Goals as goal

pub returns : goal.returns
returns c = boundaries_trimmed
