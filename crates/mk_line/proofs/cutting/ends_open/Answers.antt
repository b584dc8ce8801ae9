use Rattle.std.proofs.Common.{arith}
use Rattle.mk_line.proofs.Cuts.{last_open}
use Rattle.mk_line.proofs.cutting.ends_open.Goals as goal

pub returns-in-len1-up : goal.returns-in-len1-up
returns-in-len1-up c = last_open c.args.text.now (omega arith)
