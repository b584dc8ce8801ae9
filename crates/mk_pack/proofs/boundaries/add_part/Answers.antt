use Rattle.std.proofs.Common.{◌++◌}
use Rattle.mk_pack.specs.OwnBoundary.{measured}
use Rattle.mk_pack.proofs.HeldDigests.{held_as, held_three}
use Rattle.mk_pack.proofs.boundaries.add_part.Goals as goal

pub returns : goal.returns
returns c before h =
    let s = c.add_measured-3.new.hasher in
    held_as s _ _ (λ i. before ++ (measured (c.deref.ensures.value i) ++ (measured (c.name.ensures i) ++ measured (c.deref-2.ensures.value i))))
    (held_three s before _ _ _ (c.add_measured-3.ensures _ (c.add_measured-2.ensures _ (c.add_measured.ensures before h))))
