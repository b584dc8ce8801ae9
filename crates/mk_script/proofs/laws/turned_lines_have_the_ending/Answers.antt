use Rattle.mk_script.proofs.TurnedLines.{turned_have}
use Rattle.mk_script.proofs.laws.turned_lines_have_the_ending.Goals as goal

pub returns : goal.returns
returns c = turned_have
