use Rattle.mk_splice.proofs.Spelled.{found_is_spelled, spelled_is_found, offset_is_longest}
use Rattle.mk_splice.proofs.laws.journals_are_spelled.Goals as goal

pub returns : goal.returns
returns c = record { found = found_is_spelled; only = spelled_is_found; offset = offset_is_longest }
