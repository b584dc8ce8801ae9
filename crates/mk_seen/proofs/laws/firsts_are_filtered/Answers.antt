use Rattle.mk_seen.proofs.FirstsSaid.{firsts_are_filtered_lem}
use Rattle.mk_seen.proofs.laws.firsts_are_filtered.Goals as goal

pub returns : goal.returns
returns c = firsts_are_filtered_lem
