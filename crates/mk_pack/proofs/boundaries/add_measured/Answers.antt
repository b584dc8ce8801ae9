use Rattle.std.proofs.Common.{◌∙◌, ◌++◌}
use Rattle.mk_pack.proofs.HeldDigests.{held_as, held_piece}
use Rattle.mk_pack.proofs.boundaries.add_measured.Goals as goal

pub returns : goal.returns
returns c before h =
    let s = c.update-3.new.self in
    held_piece s before c.as_bytes.result.now c.args.piece.now (c.as_bytes.ensures.value ∙ c.format.ensures.text)
    (held_as s _ _ (λ i. ((before ++ c.as_bytes.result.now) ++ c.as_slice.ensures i) ++ c.args.piece.now) (c.update-3.ensures _ (c.update-2.ensures _ (c.update.ensures before h))))
