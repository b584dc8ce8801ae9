use Rattle.mk_head.proofs.Bytes.{parameters_bytes}
use Rattle.mk_head.proofs.laws.parameters_are_bytes_of_the_value.Goals as goal

pub returns : goal.returns
returns c = parameters_bytes
