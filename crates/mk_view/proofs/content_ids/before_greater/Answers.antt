use Rattle.std.proofs.Common.{sym}
use Rattle.mk_view.proofs.Unmarked.{before_whole}
use Rattle.mk_view.proofs.content_ids.before_greater.Goals as goal

pub returns-in-None : goal.returns-in-None
returns-in-None c = sym (before_whole 62 c.args.text.now c.in-None.ensures.parts)
