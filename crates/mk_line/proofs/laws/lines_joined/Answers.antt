use Rattle.mk_line.proofs.Cuts.{text_cut}
use Rattle.mk_line.proofs.laws.lines_joined.Goals as goal

pub returns : goal.returns
returns c = text_cut
