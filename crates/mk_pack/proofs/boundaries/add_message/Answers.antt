use Rattle.std.proofs.Common.{ap, ◌++◌, codes}
use Rattle.mk_pack.specs.OwnBoundary.{measured}
use Rattle.mk_pack.proofs.HeldDigests.{held_as, held_two}
use Rattle.mk_pack.proofs.boundaries.add_message.Goals as goal

pub returns : goal.returns
returns c before h =
    let s = c.add_measured-2.new.hasher in
    held_as s _ _ (ap (λ t. before ++ (measured (codes "message/rfc822") ++ measured t)) c.message.ensures)
    (held_two s before _ _ (c.add_measured-2.ensures _ (c.add_measured.ensures before h)))
