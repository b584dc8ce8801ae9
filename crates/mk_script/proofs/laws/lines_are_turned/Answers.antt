use Rattle.mk_script.proofs.TurnedLines.{cut_turned}
use Rattle.mk_script.proofs.laws.lines_are_turned.Goals as goal

pub returns : goal.returns
returns c = cut_turned
