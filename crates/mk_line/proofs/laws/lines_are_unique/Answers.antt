use Rattle.mk_line.proofs.Cuts.{cut_text}
use Rattle.mk_line.proofs.laws.lines_are_unique.Goals as goal

pub returns : goal.returns
returns c = cut_text
