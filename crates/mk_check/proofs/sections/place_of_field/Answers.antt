use Rattle.mk_check.proofs.Bounds.{head_fits}
use Rattle.mk_check.proofs.sections.place_of_field.Goals as goal

pub place_from-requires : goal.place_from-requires
place_from-requires c = head_fits c.args.section.now _ _ c.start-start.ensures c.head.ensures c.requires
