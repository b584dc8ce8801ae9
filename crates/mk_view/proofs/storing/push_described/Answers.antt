use Rattle.std.proofs.Common.{subst, sym}
use Rattle.mk_view.specs.LeafViews.{AreAt}
use Rattle.mk_view.proofs.LeavesAt.{at_more}
use Rattle.mk_view.proofs.storing.push_described.Goals as goal

pub returns-clause-placed : goal.returns-clause-placed
returns-clause-placed c = λ t here at_old. subst (AreAt t) (sym c.in_ok-push.ensures.items) (at_more t _ _ at_old here)
