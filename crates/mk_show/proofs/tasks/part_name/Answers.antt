use Rattle.std.proofs.Common.{codes, refl}
use Rattle.mk_view.proofs.SafeNames.{followed_safe}
use Rattle.mk_show.proofs.tasks.part_name.Goals as goal

pub returns-clause-safe : goal.returns-clause-safe
returns-clause-safe c h = rw (c.in_ok-extend_from_slice.ensures.items, c.in_ok-part.ensures.items) (followed_safe c.args.name.now (codes ".part") refl h)
