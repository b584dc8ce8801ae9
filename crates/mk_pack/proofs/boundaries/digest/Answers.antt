use Rattle.std.proofs.Common.{[], ap, ◌∙◌, map}
use Rattle.std.specs.List.{flat_map}
use Rattle.hex.specs.Hex.{encode_lower}
use Rattle.mk_build.specs.BuildViews.{attached_of}
use Rattle.mk_build.specs.ForwardViews.{forwarded_of}
use Rattle.mk_pack.specs.FreeBoundary.{measured_message}
use Rattle.mk_pack.specs.OwnBoundary.{measured, measured_part}
use Rattle.mk_pack.proofs.HeldDigests.{held_three}
use Rattle.mk_pack.proofs.boundaries.digest.Goals as goal

pub returns : goal.returns
returns c =
    let fields = flat_map measured (map (λ f. f.items) c.args.fields.now) in
    let parts = flat_map measured_part (map attached_of c.args.parts.now) in
    let messages = flat_map measured_message (map forwarded_of c.args.messages.now) in
    c.hexed.ensures
    ∙ ap encode_lower (c.finalize.ensures _ (held_three c.add_messages.new.hasher [] fields parts messages (c.add_messages.ensures _ (c.add_parts.ensures _ (c.add_fields.ensures [] c.new-hasher.ensures)))))
