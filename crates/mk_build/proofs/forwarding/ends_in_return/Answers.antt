use Rattle.mk_line.proofs.Cuts.{last_return}
use Rattle.mk_build.proofs.forwarding.ends_in_return.Goals as goal

pub returns-in-len1-up : goal.returns-in-len1-up
returns-in-len1-up c = last_return c.args.text.now
