use Rattle.std.proofs.Common.{◌∙◌, ap, sym}
use Rattle.mk_seen.proofs.KeysSeen.{file_seen, with_ids}
use Rattle.mk_seen.proofs.ids.SeenIds.read.Goals as goal

pub returns : goal.returns
returns c = sym (ap (with_ids c.loop-line.seen) c.in-None.ensures.steps.0) ∙ (c.loop-line.invariant ∙ file_seen c.args.file.now)
