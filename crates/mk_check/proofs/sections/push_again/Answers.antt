use Rattle.mk_check.proofs.Bounds.{head_fits}
use Rattle.mk_check.proofs.sections.push_again.Goals as goal

pub place_from-place-requires : goal.place_from-place-requires
place_from-place-requires c = head_fits c.args.section.now _ _ c.start.ensures c.head.ensures c.requires
