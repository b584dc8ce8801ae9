use Rattle.mk_pack.proofs.MeasuredTexts.{lists_apart}
use Rattle.mk_pack.proofs.laws.measured_lists_differ.Goals as goal

pub returns : goal.returns
returns c = lists_apart
