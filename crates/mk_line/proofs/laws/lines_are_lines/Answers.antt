use Rattle.mk_line.proofs.Cuts.{lines_cut}
use Rattle.mk_line.proofs.laws.lines_are_lines.Goals as goal

pub returns : goal.returns
returns c = lines_cut
