use Rattle.mk_head.proofs.Parts.{last_space}
use Rattle.mk_head.proofs.boundaries.ends_in_space.Goals as goal

pub returns-in-len1-up : goal.returns-in-len1-up
returns-in-len1-up c = last_space c.args.text.now
