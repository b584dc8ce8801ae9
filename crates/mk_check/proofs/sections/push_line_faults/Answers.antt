use Rattle.mk_check.proofs.Bounds.{head_fits, own_fits}
use Rattle.mk_check.proofs.sections.push_line_faults.Goals as goal

pub place_from-place-requires : goal.place_from-place-requires
place_from-place-requires c = head_fits c.args.section.now _ _ c.start-start.ensures c.head-head.ensures c.requires

pub place_from-place-requires-2 : goal.place_from-place-requires-2
place_from-place-requires-2 c = own_fits c.args.section.now _ _ c.start-start.ensures c.own_text-own.ensures c.requires

pub place_from-place-requires-3 : goal.place_from-place-requires-3
place_from-place-requires-3 c = own_fits c.args.section.now _ _ c.start-start.ensures c.own_text-own.ensures c.requires
