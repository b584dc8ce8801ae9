use Rattle.mk_script.proofs.TurnedLines.{turned_stay}
use Rattle.mk_script.proofs.laws.turned_texts_stay.Goals as goal

pub returns : goal.returns
returns c = turned_stay
