use Rattle.mk_line.proofs.Cuts.{last_return}
use Rattle.mk_line.proofs.cutting.ends_in_return.Goals as goal

pub returns-in-len1-up-clause-value : goal.returns-in-len1-up-clause-value
returns-in-len1-up-clause-value c = last_return c.args.bytes.now
