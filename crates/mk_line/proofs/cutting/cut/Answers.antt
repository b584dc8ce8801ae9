use Rattle.mk_line.proofs.Cuts.{length_cut}
use Rattle.mk_line.proofs.cutting.cut.Goals as goal

pub returns-clause-few : goal.returns-clause-few
returns-clause-few c = length_cut c.args.text.now
